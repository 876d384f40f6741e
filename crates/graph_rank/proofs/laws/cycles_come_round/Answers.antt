use Rattle.graph_rank.proofs.Rankings.{comes_round}
use Rattle.graph_rank.proofs.laws.cycles_come_round.Goals as goal

pub returns : goal.returns
returns c = comes_round
