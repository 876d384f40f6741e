use Rattle.std.proofs.Common.{◌<◌, ℕ, length, sym, ap, ◌∙◌, arith}
use Rattle.emu_machine.specs.declared.netlist.EmuGate.{EmuGate}
use Rattle.chip_pass.specs.Orders.{gate_at}
use Rattle.chip_pass.proofs.Passes.{one_listed, turn_is}
use Rattle.chip_pass.proofs.ranked.outputs_of.Goals as goal

pub gates-preserved : goal.gates-preserved
gates-preserved c =
    let low : c.gates.k < length c.args.order.now.order = omega (arith, c.gates-test.true, c.gates.auto.k-end, c.len-k-end.ensures) in
    c.in_ok-push.ensures.ok
    ∙ sym (one_listed (λ (j : ℕ). (gate_at c.args.chip.now j).output.place) c.args.order.now.order c.gates.k low c.gates.outputs c.gates.invariant
    c.get-gate.result.now.output.place
    (ap (λ (g : EmuGate). g.output.place)
    (sym (turn_is c.args.chip.now c.args.order.now.order c.gates.k c.from.result c.get-gate.result.now (c.from.ensures ∙ c.at.ensures) c.get-gate.ensures))))
