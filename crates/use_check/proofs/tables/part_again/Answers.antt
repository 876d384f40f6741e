-- The cell is one of the table, and its stamp tells.
use Rattle.use_check.proofs.Looking.{cell_in, stamped, unstamped}
use Rattle.use_check.proofs.tables.part_again.Goals as goal

pub get-requires : goal.get-requires
get-requires c =
    cell_in c.args.judged.now.results.now.net c.args.stamps.now c.args.part c.in_ok-part.part c.args.slot c.cell.result c.requires.cells c.requires.there c.in_ok-part.was c.cell.ensures

pub returns-then-get-slot : goal.returns-then-get-slot
returns-then-get-slot c =
    stamped c.args.judged.now.results.now.net c.args.stamps.now c.args.part c.in_ok-part.part c.args.slot c.cell.result c.get.result.now c.in_ok-part.was c.cell.ensures c.get.ensures c.if-get-slot.true

pub returns-else-get-slot : goal.returns-else-get-slot
returns-else-get-slot c =
    unstamped c.args.judged.now.results.now.net c.args.stamps.now c.args.part c.in_ok-part.part c.args.slot c.cell.result c.get.result.now c.in_ok-part.was c.cell.ensures c.get.ensures c.if-get-slot.false
