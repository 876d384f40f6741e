use Rattle.std.proofs.Common.{◌<◌, length, arith}
use Rattle.std.proofs.lemmas.List.Elements.{All-contains}
use Rattle.graph_rank.specs.Rows.{row}
use Rattle.graph_rank.proofs.tests.is_closed.Goals as goal

pub returns : goal.returns
returns c _ n d below has_d = All-contains (λ d. d < length c.args.graph.now) (row c.args.graph.now n) d (c.nodes.invariant n (omega arith)) has_d
