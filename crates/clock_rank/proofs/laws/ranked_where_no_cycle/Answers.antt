use Rattle.clock_rank.proofs.Resting.{ranked_exactly}
use Rattle.clock_rank.proofs.laws.ranked_where_no_cycle.Goals as goal

pub returns : goal.returns
returns c = ranked_exactly
