use Rattle.gate_pass.specs.Inside.{AreWokenTo}
use Rattle.gate_pass.proofs.pass.wake_readers.Given as goal

abbrev pub invariant-gates : goal.invariant-gates
invariant-gates l = AreWokenTo l.gates l.gate-index l.initial.waiting l.waiting
