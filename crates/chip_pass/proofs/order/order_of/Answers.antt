use Rattle.std.proofs.Common.{subst}
use Rattle.std.specs.Prelude.{Err}
use Rattle.graph_rank.specs.declared.fault.GraphFault.{GraphFault}
use Rattle.graph_rank.specs.Cycles.{IsCycle}
use Rattle.graph_rank.specs.Answers.{Answers}
use Rattle.gate_cycles.proofs.Rows.{in_range}
use Rattle.chip_pass.proofs.Ordered.{gate_order, no_cycle}
use Rattle.chip_pass.proofs.order.order_of.Goals as goal

pub rank_graph-requires : goal.rank_graph-requires
rank_graph-requires c = in_range c.args.chip.now c.requires.driven c.in_ok-graph.graph c.in_ok-graph.ensures

pub returns-in-Ok : goal.returns-in-Ok
returns-in-Ok c =
    gate_order c.args.chip.now c.requires.driven c.in_ok-graph.graph c.in_ok-graph.ensures c.in-Ok.order c.in-Ok.ensures
    (c.rankings_are_sorted.ensures c.in_ok-graph.graph c.in-Ok.order c.in-Ok.ensures)

pub unreachable-requires : goal.unreachable-requires
unreachable-requires c =
    let cycle : IsCycle c.in_ok-graph.graph c.in-Err-Cycle.field-0-0 =
    subst (λ (f : GraphFault). Answers c.in_ok-graph.graph (Err f)) c.in-Err-Cycle.field-0-is c.in-Err-Cycle.ensures in
    no_cycle c.args.chip.now c.requires.driven c.in_ok-graph.graph c.in_ok-graph.ensures c.cycles_come_round.ensures c.requires.no_cycle c.in-Err-Cycle.field-0-0 cycle
