use Rattle.std.proofs.Common.{[]}
use Rattle.emu_machine.specs.Acceptance.{FailsA4}
use Rattle.use_check.proofs.Walk.{NoneBefore}
use Rattle.shape_check.proofs.frames.find_a4.Given as goal

abbrev pub invariant-each : goal.invariant-each
invariant-each l = NoneBefore (FailsA4 l.case) [] l.frame
