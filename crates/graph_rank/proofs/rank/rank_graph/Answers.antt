use Rattle.graph_rank.proofs.Rankings.{ranking_from, first_from}
use Rattle.graph_rank.proofs.rank.rank_graph.Goals as goal

pub returns-in-None : goal.returns-in-None
returns-in-None c =
    ranking_from _ _ c.in_ok-marks.ensures (rw c.as_slice.ensures.value at c.in-None.ensures) _
    (rw c.as_slice-in-None.ensures.value at c.in_ok-order-in-None.ensures)

pub find_cycle-requires-clause-first : goal.find_cycle-requires-clause-first
find_cycle-requires-clause-first c =
    first_from _ _ c.in_ok-marks.ensures _ c.as_slice.ensures.value c.in-Some.first c.in-Some.ensures
