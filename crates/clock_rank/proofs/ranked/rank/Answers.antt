use Rattle.std.proofs.Common.{refl, ◌∙◌}
use Rattle.clock_rank.proofs.Ends.{graph_closed, order_is, cycle_named, cycle_is}
use Rattle.clock_rank.proofs.ranked.rank.Goals as goal

pub rank_graph-requires : goal.rank_graph-requires
rank_graph-requires c = graph_closed c.args.design.now c.stands.ensures.design _ c.in_ok-graph.ensures

pub returns-in-Ok : goal.returns-in-Ok
returns-in-Ok c =
    (refl, order_is c.ranks_are_unique.ensures c.args.design.now c.stands.ensures.design _ c.in_ok-graph.ensures c.in-Ok.order c.in-Ok.ensures)

pub nodes_at-requires : goal.nodes_at-requires
nodes_at-requires c =
    cycle_named c.args.design.now c.stands.ensures.design _ c.in_ok-graph.ensures c.in-Err-Cycle.cycle (rw c.in-Err-Cycle.field-0-is at c.in-Err-Cycle.ensures) _
    (c.as_slice-in-Err-Cycle.ensures.value ∙ c.in_ok-nodes.ensures) _ c.as_slice-in-Err-Cycle-2.ensures

pub returns-in-Err-Cycle : goal.returns-in-Err-Cycle
returns-in-Err-Cycle c =
    cycle_is c.args.design.now c.stands.ensures.design _ c.in_ok-graph.ensures c.in-Err-Cycle.cycle (rw c.in-Err-Cycle.field-0-is at c.in-Err-Cycle.ensures) _
    (c.as_slice-in-Err-Cycle.ensures.value ∙ c.in_ok-nodes.ensures) _ c.as_slice-in-Err-Cycle-2.ensures _ c.in_ok-named-in-Err-Cycle.ensures
