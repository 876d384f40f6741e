use Rattle.shape_check.proofs.Ordered.{first_failure}
use Rattle.shape_check.proofs.verdict.first_is_first_failure.Goals as goal

pub returns : goal.returns
returns c = first_failure
