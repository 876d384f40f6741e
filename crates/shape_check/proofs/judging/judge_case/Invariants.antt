use Rattle.std.proofs.Common.{◌+◌}
use Rattle.shape_check.specs.Verdict.{HoldBefore}
use Rattle.shape_check.proofs.judging.judge_case.Given as goal

abbrev pub invariant-each : goal.invariant-each
invariant-each l = HoldBefore l.case (l.k + 1)
