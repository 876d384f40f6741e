use Rattle.std.proofs.Common.{length, ap, arith}
use Rattle.graph_rank.proofs.Cuts.{cut-length}
use Rattle.graph_rank.proofs.graph.Graph.row.Goals as goal

pub row_of-requires-clause-within : goal.row_of-requires-clause-within
row_of-requires-clause-within c =
    omega (arith, c.as_slice-2.ensures.len, cut-length c.self.inside.items.items 0 c.self.inside.ends.items, ap length c.self.view_is, c.requires)
