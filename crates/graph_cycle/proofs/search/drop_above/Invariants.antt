use Rattle.std.proofs.Common.{◌≡◌, ◌<◌, ◌≤◌, ℕ, length, take, get_or}
use Rattle.graph_cycle.proofs.search.drop_above.Given as goal

abbrev pub invariant-drop : goal.invariant-drop
invariant-drop l = record {
  front : take (length l.bounds.items) l.fn.bounds.items ≡ l.bounds.items;
  short : length l.bounds.items ≤ length l.fn.bounds.items;
  dropped : (k : ℕ) → length l.bounds.items ≤ k → k < length l.fn.bounds.items → l.place < get_or l.fn.bounds.items k 0;
}

abbrev pub decreases-drop : goal.decreases-drop
decreases-drop l = length l.bounds.items
