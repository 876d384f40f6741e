-- The output ports are taken in order.
use Rattle.std.proofs.Common.{◌<◌, ◌≤◌, [], ◌∷◌, subst, arith, refl, length, List}
use Rattle.design_core.specs.Design.{port_bits}
use Rattle.emu_machine.specs.declared.map.Spot.{Spot}
use Rattle.emu_machine.specs.declared.place.Place.TheVariants as place
use Rattle.emu_machine.specs.Acceptance.{FailsA9}
use Rattle.shape_check.proofs.Lost.{behind, last_port, longer, next_at, none_over, one_over, port_step, within}
use Rattle.use_check.proofs.Walk.{found, nowhere}
use Rattle.shape_check.proofs.unmapped.find_output.Goals as goal

pub find_in_port-requires-clause-few : goal.find_in_port-requires-clause-few
find_in_port-requires-clause-few c =
    let step = port_step (port_bits c.args.case.now.design.outputs) c.as_slice-ports.result.now c.ports.next c.ports.k c.index-ports-k.result c.as_slice-nets.result.now c.ports.invariant.rest c.ports-test.true c.index-ports-k.is c.as_slice-nets.ensures in
    let most = within (port_bits c.args.case.now.design.outputs) c.ports.next c.as_slice-nets.result.now _ c.ports.invariant.low step in
    omega (arith, most, c.stands.ensures.countable.output_bits)

pub find_in_port-requires-clause-bits : goal.find_in_port-requires-clause-bits
find_in_port-requires-clause-bits c k n at =
    let step = port_step (port_bits c.args.case.now.design.outputs) c.as_slice-ports.result.now c.ports.next c.ports.k c.index-ports-k.result c.as_slice-nets.result.now c.ports.invariant.rest c.ports-test.true c.index-ports-k.is c.as_slice-nets.ensures in
    next_at (port_bits c.args.case.now.design.outputs) c.ports.next k c.as_slice-nets.result.now _ n step at

pub overflow_cast-next : goal.overflow_cast-next
overflow_cast-next c =
    let step = port_step (port_bits c.args.case.now.design.outputs) c.as_slice-ports.result.now c.ports.next c.ports.k c.index-ports-k.result c.as_slice-nets.result.now c.ports.invariant.rest c.ports-test.true c.index-ports-k.is c.as_slice-nets.ensures in
    let most = within (port_bits c.args.case.now.design.outputs) c.ports.next c.as_slice-nets.result.now _ c.ports.invariant.low step in
    omega (arith, most, c.stands.ensures.countable.output_bits)

pub overflow_add-next : goal.overflow_add-next
overflow_add-next c =
    let step = port_step (port_bits c.args.case.now.design.outputs) c.as_slice-ports.result.now c.ports.next c.ports.k c.index-ports-k.result c.as_slice-nets.result.now c.ports.invariant.rest c.ports-test.true c.index-ports-k.is c.as_slice-nets.ensures in
    let most = within (port_bits c.args.case.now.design.outputs) c.ports.next c.as_slice-nets.result.now _ c.ports.invariant.low step in
    omega (arith, most, c.stands.ensures.countable.output_bits)

pub ports-preserved : goal.ports-preserved
ports-preserved c =
    let step = port_step (port_bits c.args.case.now.design.outputs) c.as_slice-ports.result.now c.ports.next c.ports.k c.index-ports-k.result c.as_slice-nets.result.now c.ports.invariant.rest c.ports-test.true c.index-ports-k.is c.as_slice-nets.ensures in
    record {
      low = within (port_bits c.args.case.now.design.outputs) c.ports.next c.as_slice-nets.result.now _ c.ports.invariant.low step;
      before = c.in_default.ensures;
      rest = behind (port_bits c.args.case.now.design.outputs) c.ports.next _ c.as_slice-nets.result.now _ step refl;
    }

pub returns-then-outputs-next : goal.returns-then-outputs-next
returns-then-outputs-next c =
    found (FailsA9 c.args.case.now) (2 ∷ []) (longer c.args.case.now 1 (omega arith)) c.ports.next (place.Output c.ports.next) c.ports.invariant.before
    (one_over c.args.case.now c.ports.next
    (last_port (port_bits c.args.case.now.design.outputs) c.as_slice-ports.result.now c.ports.next c.ports.k c.ports.invariant.low c.ports.invariant.rest c.ports-test.false)
    (subst (λ (spots : List Spot). c.ports.next < length spots) c.outputs-2.ensures c.if-outputs-next.true))

pub returns : goal.returns
returns c =
    let end : length (port_bits c.args.case.now.design.outputs) ≤ c.ports.next = last_port (port_bits c.args.case.now.design.outputs) c.as_slice-ports.result.now c.ports.next c.ports.k c.ports.invariant.low c.ports.invariant.rest c.ports-test.false in
    let short : length c.args.case.now.results.map.outputs ≤ c.ports.next = subst (λ (spots : List Spot). length spots ≤ c.ports.next) c.outputs-2.ensures c.if-outputs-next.false in
    nowhere (FailsA9 c.args.case.now) (2 ∷ []) (longer c.args.case.now 1 (omega arith)) c.ports.next c.ports.invariant.before
    (λ k high. none_over c.args.case.now k (omega (arith, end, high)) (omega (arith, short, high)))
