use Rattle.std.proofs.Common.{length}
use Rattle.link_rows.specs.Rows.{row}
use Rattle.link_rows.proofs.Lasts.{Walks, part_from}
use Rattle.link_rows.proofs.rows.Rows.last.Given as goal

abbrev pub invariant-forth : goal.invariant-forth
invariant-forth g l = Walks (row l.self.lists (g.H.Key.place_of l.fn.h)) l.at

abbrev pub decreases-forth : goal.decreases-forth
decreases-forth g l = length (part_from l.at (row l.self.lists (g.H.Key.place_of l.fn.h)))
