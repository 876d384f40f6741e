use Rattle.accepted_law.proofs.Whole.{accepted_agrees}
use Rattle.accepted_law.proofs.acceptance.accepted_agrees.Goals as goal

pub returns : goal.returns
returns c = accepted_agrees
