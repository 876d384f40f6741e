use Rattle.std.proofs.Common.{◌≡◌, ◌≤◌, ◌<◌, ◌⊎◌, ℕ, false, get_or}
use Rattle.std.specs.List.{Contains}
use Rattle.graph_rank.specs.Search.{ranked, mark_at}
use Rattle.graph_rank.proofs.cycle.least_unranked.Given as goal

abbrev pub invariant-needs : goal.invariant-needs
invariant-needs l = record {
  least : (k : ℕ) → k < l.need-index → ranked (mark_at l.marks (get_or l.needs k 0)) ≡ false → l.least ≤ get_or l.needs k 0;
  here : (l.least ≡ 4294967295) ⊎ (Contains l.needs l.least × (ranked (mark_at l.marks l.least) ≡ false));
}
