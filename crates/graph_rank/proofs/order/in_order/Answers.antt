use Rattle.graph_rank.proofs.Sorting.{put_in_order}
use Rattle.graph_rank.proofs.order.in_order.Goals as goal

pub returns : goal.returns
returns c =
    put_in_order c.args.marks.now _ _ c.in_ok-places.ensures c.sort_unstable.ensures.permutation c.sort_unstable.ensures.sorted
    _ _ c.in_ok-ranks.ensures (rw c.as_slice.ensures.value at c.in_ok-nodes.ensures)
