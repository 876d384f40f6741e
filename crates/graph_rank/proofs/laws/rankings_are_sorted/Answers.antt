use Rattle.graph_rank.proofs.Rankings.{sorted_order}
use Rattle.graph_rank.proofs.laws.rankings_are_sorted.Goals as goal

pub returns : goal.returns
returns c = sorted_order
