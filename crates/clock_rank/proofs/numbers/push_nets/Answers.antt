use Rattle.std.proofs.Common.{ap}
use Rattle.design_core.specs.declared.node.NodeId.TheVariants.{Net}
use Rattle.clock_rank.specs.Numbers.{net_node}
use Rattle.clock_rank.proofs.Steps.{range_more}
use Rattle.clock_rank.proofs.numbers.push_nets.Goals as goal

pub nets-preserved : goal.nets-preserved
nets-preserved c =
    range_more net_node c.args.nodes.now.items c.nets.nodes.items _ c.nets.n _ c.nets.invariant c.in_ok-push.ensures.items (ap Net c.of.ensures)
