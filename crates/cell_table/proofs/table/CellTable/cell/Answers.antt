use Rattle.cell_table.proofs.SoundLemmas.{AreSound-at}
use Rattle.cell_table.proofs.table.CellTable.cell.Goals as goal

pub returns-clause-sound : goal.returns-clause-sound
returns-clause-sound c = AreSound-at c.self.inside.cells c.args.id.place c.get.result.now c.self.invariant.1 c.get.ensures
