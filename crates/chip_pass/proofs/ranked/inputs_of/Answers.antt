use Rattle.std.proofs.Common.{◌<◌, ℕ, length, sym, ap, ◌∙◌, arith}
use Rattle.chip_pass.specs.Orders.{gate_at, input_places}
use Rattle.chip_pass.proofs.Passes.{one_listed, turn_is}
use Rattle.chip_pass.proofs.ranked.inputs_of.Goals as goal

pub gates-preserved : goal.gates-preserved
gates-preserved c =
    let low : c.gates.k < length c.args.order.now.order = omega (arith, c.gates-test.true, c.gates.auto.k-end, c.len-k-end.ensures) in
    c.in_ok-add_row.ensures.ok
    ∙ sym (one_listed (λ (j : ℕ). input_places (gate_at c.args.chip.now j)) c.args.order.now.order c.gates.k low c.gates.inputs c.gates.invariant
    c.as_slice.result.now
    (c.as_slice.ensures.value ∙ c.in_ok-put_inputs.ensures
    ∙ ap input_places
    (sym (turn_is c.args.chip.now c.args.order.now.order c.gates.k c.from.result c.get.result.now (c.from.ensures ∙ c.at.ensures) c.get.ensures))))
