use Rattle.std.proofs.Common.{[]}
use Rattle.emu_machine.specs.Acceptance.{FailsA7}
use Rattle.use_check.proofs.Walk.{NoneBefore}
use Rattle.shape_check.proofs.fitting.find_a7.Given as goal

abbrev pub invariant-each : goal.invariant-each
invariant-each l = NoneBefore (FailsA7 l.case) [] l.k
