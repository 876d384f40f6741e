use Rattle.std.proofs.Common.{◌≡◌, ◌≢◌, ◌+◌, ◌≤◌, ◌∙◌, Ok, Err, List, Result, refl, ap, arith, length, subst, sym}
use Rattle.module_nets.specs.declared.fault.NetFault.{NetFault}
use Rattle.module_nets.specs.Nets.{Nets}
use Rattle.module_nets.specs.Nets as declared_nets
use Rattle.flattening.specs.declared.fault.ElabFault.{ElabFault}
use Rattle.flattening.specs.declared.fault.ElabFault.TheVariants.{NoMemory}
use Rattle.flattening.specs.declared.made.Made.{Made}
use Rattle.flattening.specs.Pieces.{joined}
use Rattle.flattening.specs.Places.{Inside}
use Rattle.flattening.specs.Laws.{AreTold}
use Rattle.elaborator.specs.Walk.{bit_count, entry_piece, instance_at}
use Rattle.elaborator.proofs.Admitting.{bits_small, counted_own, entry_fits, entry_full, not_declared, room_small, same_entry}
use Rattle.elaborator.proofs.OwnNets.{rows_few}
use Rattle.elaborator.proofs.entering.admit.Goals as goal

pub returns-in-Err-clause-enters : goal.returns-in-Err-clause-enters
returns-in-Err-clause-enters c free =
    let g = c.args.setting.now in
    let m = c.args.module.now in
    let told = subst (λ (r : Result Nets NetFault). AreTold g m r) c.in-Err.is (c.declarations_are_told.ensures g m c.args.ready.now.nets c.requires.ready.nets) in
    not_declared g m c.args.parent c.args.name.now (instance_at g c.args.around.now m c.args.making.now) c.args.making.now c.in-Err.fault refl told
    (subst (λ (f : ElabFault). f ≢ NoMemory) c.declared.ensures free) ∙ ap Err (sym c.declared.ensures)

pub returns-in-Some-clause-enters : goal.returns-in-Some-clause-enters
returns-in-Some-clause-enters c free =
    let g = c.args.setting.now in
    let m = c.args.module.now in
    let told = subst (λ (r : Result Nets NetFault). AreTold g m r) c.in-Ok.is (c.declarations_are_told.ensures g m c.args.ready.now.nets c.requires.ready.nets) in
    let said = subst (λ (r : Result Nets NetFault). declared_nets.Answers g.source g.tokens m r) c.in-Ok.is c.requires.ready.nets in
    entry_full g c.args.parent c.args.name.now (instance_at g c.args.around.now m c.args.making.now) c.args.making.now c.start.result c.count_bits.result c.start.ensures told.1
    (counted_own g m c.args.around.now c.args.making.now c.in-Ok.nets c.count_bits.result told.0 said.1.sized c.count_bits.ensures)
    c.in-Some.fault (sym c.room_fault.ensures ∙ c.in-Some.is)

pub push_entry-requires-clause-few : goal.push_entry-requires-clause-few
push_entry-requires-clause-few c =
    let small = room_small c.start.result c.args.making.now c.count_bits.result (sym c.room_fault.ensures ∙ c.in_default.is) in
    let bits : length c.args.making.now.net_names + bit_count c.in-Ok.nets.rows ≤ 400000 = bits_small (length c.args.making.now.net_names) c.count_bits.result (bit_count c.in-Ok.nets.rows) c.count_bits.ensures small in
    let few : length c.in-Ok.nets.rows ≤ bit_count c.in-Ok.nets.rows = rows_few c.in-Ok.nets.rows in
    omega (arith, bits, few)

pub returns-clause-numbered : goal.returns-clause-numbered
returns-clause-numbered c =
    let g = c.args.setting.now in
    let m = c.args.module.now in
    let said = subst (λ (r : Result Nets NetFault). declared_nets.Answers g.source g.tokens m r) c.in-Ok.is c.requires.ready.nets in
    let small = room_small c.start.result c.args.making.now c.count_bits.result (sym c.room_fault.ensures ∙ c.in_default.is) in
    let bits : length c.args.making.now.net_names + bit_count c.in-Ok.nets.rows ≤ 400000 = bits_small (length c.args.making.now.net_names) c.count_bits.result (bit_count c.in-Ok.nets.rows) c.count_bits.ensures small in
    let base : c.in_ok-next_net.field-0 ≡ length c.args.making.now.net_names = c.in_ok-next_net.ensures in
    c.nets_are_numbered.ensures g.source g.tokens m c.in-Ok.nets c.in_ok-next_net.field-0 said (omega (arith, base, bits))

pub returns-clause-enters : goal.returns-clause-enters
returns-clause-enters c =
    let g = c.args.setting.now in
    let m = c.args.module.now in
    let told = subst (λ (r : Result Nets NetFault). AreTold g m r) c.in-Ok.is (c.declarations_are_told.ensures g m c.args.ready.now.nets c.requires.ready.nets) in
    let said = subst (λ (r : Result Nets NetFault). declared_nets.Answers g.source g.tokens m r) c.in-Ok.is c.requires.ready.nets in
    entry_fits g c.args.parent c.args.name.now (instance_at g c.args.around.now m c.args.making.now) c.args.making.now c.start.result c.count_bits.result c.start.ensures told.1
    (counted_own g m c.args.around.now c.args.making.now c.in-Ok.nets c.count_bits.result told.0 said.1.sized c.count_bits.ensures)
    (sym c.room_fault.ensures ∙ c.in_default.is)
    ∙ ap (λ (p : Made). Ok (joined c.args.making.now p))
    (same_entry g m c.args.around.now c.args.making.now c.args.parent c.args.name.now c.in_ok-next_scope.field-0 c.in_ok-next_net.field-0 c.in-Ok.nets c.in_ok-next_scope.ensures told.0)
    ∙ ap (λ (p : Made). Ok p) (sym c.in_ok-push_entry.ensures)
