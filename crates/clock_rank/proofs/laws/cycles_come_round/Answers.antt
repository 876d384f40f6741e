use Rattle.clock_rank.proofs.Rounds.{come_round}
use Rattle.clock_rank.proofs.laws.cycles_come_round.Goals as goal

pub returns : goal.returns
returns c = come_round
