use Rattle.std.proofs.Common.{◌<◌, ℕ, length}
use Rattle.std.specs.List.{All}
use Rattle.graph_rank.specs.Rows.{row}
use Rattle.graph_rank.proofs.tests.is_closed.Given as goal

abbrev pub invariant-nodes : goal.invariant-nodes
invariant-nodes l = (n : ℕ) → n < l.node → All (λ d. d < length l.graph) (row l.graph n)
