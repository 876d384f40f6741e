use Rattle.marks_law.proofs.Tables.{tables_are_functions}
use Rattle.marks_law.proofs.gates.tables_are_functions.Goals as goal

pub returns : goal.returns
returns c = tables_are_functions
