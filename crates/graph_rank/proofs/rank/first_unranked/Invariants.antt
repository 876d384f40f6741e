use Rattle.std.proofs.Common.{◌≡◌, ◌<◌, ℕ, true}
use Rattle.graph_rank.specs.Search.{ranked, mark_at}
use Rattle.graph_rank.proofs.rank.first_unranked.Given as goal

abbrev pub invariant-marks : goal.invariant-marks
invariant-marks l = (n : ℕ) → n < l.node → ranked (mark_at l.marks n) ≡ true
