-- The columns make the table.
use Rattle.shape_check.proofs.Columns.{latch_is}
use Rattle.shape_check.proofs.tables.latch_table.Goals as goal

pub returns : goal.returns
returns c = rw (c.inputs.ensures, c.held_by.ensures, c.acts.ensures, c.acts-2.ensures, c.behind-after.ensures, c.acting-open.ensures) (latch_is c.args.latch)
