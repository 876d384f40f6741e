use Rattle.graph_rank.proofs.Deciding.{some_cycle}
use Rattle.graph_rank.proofs.laws.unranked_has_cycle.Goals as goal

pub returns : goal.returns
returns c = some_cycle
