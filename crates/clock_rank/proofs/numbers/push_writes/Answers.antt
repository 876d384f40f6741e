use Rattle.std.proofs.Common.{ap}
use Rattle.design_core.specs.declared.node.NodeId.TheVariants.{Write}
use Rattle.clock_rank.proofs.Steps.{range_more}
use Rattle.clock_rank.proofs.numbers.push_writes.Goals as goal

pub ports-preserved : goal.ports-preserved
ports-preserved c =
    range_more (Write (record { place = c.args.m })) c.args.nodes.now.items c.ports.nodes.items _ c.ports.port _ c.ports.invariant
    c.in_ok-push.ensures.items (ap (λ i. Write i c.ports.port) c.of.ensures)
