use Rattle.slot_law.proofs.Together.{slot_keeps_marks}
use Rattle.slot_law.proofs.actions.slot_keeps_marks.Goals as goal

pub returns : goal.returns
returns c = slot_keeps_marks
