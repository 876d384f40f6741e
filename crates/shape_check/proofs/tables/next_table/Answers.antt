-- The columns make the table.
use Rattle.shape_check.proofs.Columns.{next_is}
use Rattle.shape_check.proofs.tables.next_table.Goals as goal

pub returns : goal.returns
returns c = rw (c.inputs.ensures, c.held_by.ensures, c.acts.ensures, c.acts-2.ensures, c.behind-after.ensures) (next_is c.args.flop)
