use Rattle.accepted_law.proofs.Whole.{accepted_marks_are_true}
use Rattle.accepted_law.proofs.acceptance.accepted_marks_are_true.Goals as goal

pub returns : goal.returns
returns c = accepted_marks_are_true
