use Rattle.std.proofs.Common.{[]}
use Rattle.use_check.specs.Uses.{FailsUse}
use Rattle.use_check.proofs.Walk.{NoneBefore}
use Rattle.use_check.proofs.uses.find_use.Given as goal

abbrev pub invariant-each : goal.invariant-each
invariant-each l = NoneBefore (FailsUse l.judged.board.now.wires l.judged.results.now) [] l.k
