use Rattle.std.proofs.Common.{count_by}
use Rattle.std.specs.Option.{is_none}
use Rattle.board_model.specs.Rounds.{IsReached}
use Rattle.board_model.proofs.routes.distances_from.Given as goal

-- the chips that so many wires lead to have their distance
abbrev pub invariant-rounds : goal.invariant-rounds
invariant-rounds l = IsReached l.board l.fn.root.place l.wires l.distances

abbrev pub decreases-rounds : goal.decreases-rounds
decreases-rounds l = count_by is_none l.distances
