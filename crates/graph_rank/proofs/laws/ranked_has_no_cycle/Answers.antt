use Rattle.graph_rank.proofs.Rankings.{no_cycle}
use Rattle.graph_rank.proofs.laws.ranked_has_no_cycle.Goals as goal

pub returns : goal.returns
returns c = no_cycle
