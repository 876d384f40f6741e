use Rattle.std.proofs.Common.{◌≡◌, ◌≤◌, ◌+◌, ◌*◌, ◌^◌, ap, ◌∙◌, arith}
use Rattle.design_core.specs.Operation.{bit}
use Rattle.cycle_sim.proofs.Rows.{next_row, added, passed_over, stays_low, doubled, power, rest_there}
use Rattle.cycle_sim.proofs.gates.row_of.Goals.{then-value_of, else-value_of}
use Rattle.cycle_sim.proofs.gates.row_of.Goals as goal

pub inputs-preserved : goal.inputs-preserved
inputs-preserved c =
    let grows : c.if-value_of.row ≡ c.inputs.row + c.inputs.weight * bit c.value_of.result = elim c.if-value_of.branch [
      | then-value_of w ↦ added _ _ _ _ w.if-value_of.true w.row-is
      | else-value_of w ↦ passed_over _ _ _ _ w.if-value_of.false w.row-is
    ] in
    record {
      rest = next_row c.args.table.now c.args.inputs.now c.inputs.input-index c.inputs-test.true c.inputs.row c.if-value_of.row c.inputs.weight _ c.inputs.invariant.rest
          (grows ∙ ap (λ b. c.inputs.row + c.inputs.weight * bit b) c.value_of.ensures);
      weight = doubled c.inputs.input-index c.inputs.weight c.inputs.invariant.weight;
      low = stays_low c.value_of.result c.inputs.row c.if-value_of.row c.inputs.weight c.inputs.invariant.low grows;
      there = rest_there _ _ _ c.inputs-test.true c.inputs.invariant.there;
    }

pub returns-clause-low : goal.returns-clause-low
returns-clause-low c =
    let few : c.inputs.input-index ≤ 6 = omega (arith, c.inputs.auto.input-index-end, c.requires.few) in
    let small : 2 ^ c.inputs.input-index ≤ 64 = power c.inputs.input-index few in
    omega (arith, c.inputs.invariant.low, c.inputs.invariant.weight)
