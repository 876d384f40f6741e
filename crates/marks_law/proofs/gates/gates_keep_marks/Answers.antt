use Rattle.marks_law.proofs.Through.{gates_keep_marks}
use Rattle.marks_law.proofs.gates.gates_keep_marks.Goals as goal

pub returns : goal.returns
returns c = gates_keep_marks
