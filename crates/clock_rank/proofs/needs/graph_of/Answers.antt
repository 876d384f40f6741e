use Rattle.clock_rank.specs.Numbers.{row_of}
use Rattle.clock_rank.proofs.Steps.{node_there, row_room}
use Rattle.clock_rank.proofs.needs.graph_of.Goals as goal

pub add_needs-requires-clause-node : goal.add_needs-requires-clause-node
add_needs-requires-clause-node c = node_there c.args.design.now c.args.nodes.now c.requires.nodes c.nodes.node-index c.nodes-test.true

pub add_row-requires : goal.add_row-requires
add_row-requires c =
    row_room c.args.design.now _ _ c.requires.starts c.args.nodes.now c.requires.nodes c.nodes.graph (row_of c.args.design.now) c.nodes.node-index c.nodes-test.true c.nodes.invariant
