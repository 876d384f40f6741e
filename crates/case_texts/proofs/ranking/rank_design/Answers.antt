use Rattle.std.proofs.Common.{rules}
use Rattle.clock_rank.specs.Cycles.{IsCycle}
use Rattle.case_texts.proofs.CycleNodes.{cycle_node}
use Rattle.case_texts.proofs.ranking.rank_design.Goals as goal

pub node_texts-requires : goal.node_texts-requires
node_texts-requires c k d low =
    let is : IsCycle c.args.design.now c.as_slice.result.now = search rules in
    cycle_node c.args.design.now c.as_slice.result.now is k d low
