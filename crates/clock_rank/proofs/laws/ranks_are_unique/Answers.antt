use Rattle.clock_rank.proofs.Ordered.{one_rank}
use Rattle.clock_rank.proofs.laws.ranks_are_unique.Goals as goal

pub returns : goal.returns
returns c = one_rank
