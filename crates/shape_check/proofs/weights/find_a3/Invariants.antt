use Rattle.std.proofs.Common.{[]}
use Rattle.emu_machine.specs.Acceptance.{FailsA3}
use Rattle.use_check.proofs.Walk.{NoneBefore}
use Rattle.shape_check.proofs.weights.find_a3.Given as goal

abbrev pub invariant-each : goal.invariant-each
invariant-each l = NoneBefore (FailsA3 l.case) [] l.k
