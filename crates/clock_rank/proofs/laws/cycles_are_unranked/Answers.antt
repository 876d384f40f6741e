use Rattle.clock_rank.proofs.Ordered.{unranked_cycle}
use Rattle.clock_rank.proofs.laws.cycles_are_unranked.Goals as goal

pub returns : goal.returns
returns c = unranked_cycle
