use Rattle.std.proofs.Common.{rules}
use Rattle.case_texts.proofs.CycleNodes.{next_text}
use Rattle.case_texts.proofs.ranking.node_texts.Goals as goal

pub nodes-preserved : goal.nodes-preserved
nodes-preserved c =
    next_text c.args.design.now c.args.nodes.now c.nodes.texts _ c.nodes.node-index _ c.in_ok-node_text.field-0 (search rules) (search rules) c.in_ok-push.ensures.ok c.nodes.invariant c.in_ok-node_text.ensures
