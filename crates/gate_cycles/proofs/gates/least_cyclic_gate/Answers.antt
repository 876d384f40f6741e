-- The least node of the graph on a cycle is the least gate on one.
use Rattle.gate_cycles.proofs.Rows.{in_range, least_told}
use Rattle.gate_cycles.proofs.gates.least_cyclic_gate.Goals as goal

pub least_on_cycle-requires : goal.least_on_cycle-requires
least_on_cycle-requires c = in_range c.args.chip.now c.requires c.in_ok-graph.graph c.in_ok-graph.ensures

pub returns : goal.returns
returns c = least_told c.args.chip.now c.requires c.in_ok-graph.graph c.in_ok-graph.ensures c.least_on_cycle.result c.least_on_cycle.ensures
