-- The columns make the table.
use Rattle.shape_check.proofs.Columns.{take_is}
use Rattle.shape_check.proofs.tables.take_table.Goals as goal

pub returns : goal.returns
returns c = rw (c.inputs.ensures, c.acts.ensures, c.acts-2.ensures, c.behind-after.ensures) (take_is c.args.flop)
