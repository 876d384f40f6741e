use Rattle.std.proofs.Common.{length, ap, arith}
use Rattle.graph_rank.proofs.Cuts.{cut-length}
use Rattle.graph_rank.proofs.graph.Graph.len.Goals as goal

pub returns : goal.returns
returns c =
    omega (arith, c.len.ensures, cut-length c.self.inside.items.items 0 c.self.inside.ends.items, ap length c.self.view_is)
