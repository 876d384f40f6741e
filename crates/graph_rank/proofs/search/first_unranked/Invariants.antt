use Rattle.graph_rank.specs.Search.{RankedBelow}
use Rattle.graph_rank.proofs.search.first_unranked.Given as goal

abbrev pub invariant-needs : goal.invariant-needs
invariant-needs l = RankedBelow l.marks l.needs l.end
