use Rattle.shape_check.proofs.Turning.{NoneBefore}
use Rattle.shape_check.proofs.cycles.find_a2.Given as goal

abbrev pub invariant-each : goal.invariant-each
invariant-each l = NoneBefore l.case l.k
