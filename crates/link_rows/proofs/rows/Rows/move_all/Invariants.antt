use Rattle.std.proofs.Common.{length}
use Rattle.std.specs.Option.{option_map}
use Rattle.link_rows.specs.Rows.{row}
use Rattle.link_rows.proofs.Moves.{Moves}
use Rattle.link_rows.proofs.rows.Rows.move_all.Given as goal

abbrev pub invariant-back : goal.invariant-back
invariant-back g l = Moves l.initial.self l.self (g.H.Key.place_of l.fn.from) (g.H.Key.place_of l.to) (option_map g.I.Key.place_of l.at)

abbrev pub decreases-back : goal.decreases-back
decreases-back g l = length (row l.self.lists (g.H.Key.place_of l.fn.from))
