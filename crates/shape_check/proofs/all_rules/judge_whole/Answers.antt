-- The first nine rules hang on no influence.
use Rattle.std.proofs.Common.{subst}
use Rattle.shape_check.specs.Influences.{inside_of}
use Rattle.shape_check.specs.Verdict.{IsShapeVerdict}
use Rattle.shape_check.specs.declared.verdict.Verdict.{Verdict}
use Rattle.shape_check.proofs.all_rules.judge_whole.Goals as goal

pub returns-in-Rejected : goal.returns-in-Rejected
returns-in-Rejected c =
    (subst (λ (v : Verdict). IsShapeVerdict c.args.case.now v) c.in-Rejected.is c.in_ok-judge_case.ensures).1 (inside_of c.args.influences.now)
