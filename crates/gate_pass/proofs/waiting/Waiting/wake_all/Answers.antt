use Rattle.std.proofs.Common.{◌≡◌, length, sym, ap, ◌∙◌, arith}
use Rattle.gate_pass.proofs.Woken.{all_clear}
use Rattle.gate_pass.proofs.waiting.Waiting.wake_all.Goals as goal

pub returns : goal.returns
returns c =
    let bits : length c.args.self.now ≡ c.self.inside.gates = ap length (sym c.self.view_is) ∙ c.self.invariant.bits in
    all_clear c.gates.self (length c.args.self.now) c.gates.invariant.size
    (λ k low. c.gates.invariant.woken k (omega (arith, low, bits, c.gates.invariant.size, c.gates-test.false, c.gates.auto.gate-end)))
