use Rattle.graph_rank.proofs.Rankings.{one_rank}
use Rattle.graph_rank.proofs.laws.ranks_are_unique.Goals as goal

pub returns : goal.returns
returns c = one_rank
