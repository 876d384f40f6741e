use Rattle.std.proofs.Common.{◌≡◌, max, drop}
use Rattle.graph_rank.specs.Ranks.{above}
use Rattle.graph_rank.specs.Search.{rank_at}
use Rattle.graph_rank.proofs.search.rank_above.Given as goal

abbrev pub invariant-needs : goal.invariant-needs
invariant-needs l = max l.rank (above (rank_at l.marks) (drop l.need-index l.needs)) ≡ above (rank_at l.marks) l.needs
