use Rattle.clock_rank.proofs.Ordered.{sorted_order}
use Rattle.clock_rank.proofs.laws.orders_are_sorted.Goals as goal

pub returns : goal.returns
returns c = sorted_order
