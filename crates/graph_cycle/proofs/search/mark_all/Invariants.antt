use Rattle.std.proofs.Common.{◌≡◌, ◌<◌, ℕ, [], false}
use Rattle.graph_cycle.specs.Search.{fresh, mark_at, IsSearch}
use Rattle.graph_cycle.proofs.search.mark_all.Given as goal

abbrev pub invariant-roots : goal.invariant-roots
invariant-roots l = record {
  search : IsSearch l.graph l.search.marks.items l.search.next.items l.search.stack.items l.search.work.items l.search.bounds.items;
  blank : l.search.bounds.items ≡ [];
  met : (n : ℕ) → n < l.root → fresh (mark_at l.search.marks.items n) ≡ false;
}
