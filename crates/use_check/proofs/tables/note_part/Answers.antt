-- The cell is one of the table.
use Rattle.use_check.proofs.Looking.{cell_in}
use Rattle.use_check.proofs.tables.note_part.Goals as goal

pub set-requires : goal.set-requires
set-requires c =
    cell_in c.args.judged.now.results.now.net c.args.stamps.now c.args.part c.in-Some.part c.args.last c.cell.result c.requires.cells c.requires.there c.in-Some.is c.cell.ensures
