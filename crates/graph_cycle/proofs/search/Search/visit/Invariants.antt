use Rattle.std.proofs.Common.{◌≡◌, false}
use Rattle.graph_cycle.specs.Search.{fresh, mark_at, IsSearch, Keeps, weight}
use Rattle.graph_cycle.proofs.search.Search.visit.Given as goal

abbrev pub invariant-search : goal.invariant-search
invariant-search l = record {
  search : IsSearch l.graph l.self.marks.items l.self.next.items l.self.stack.items l.self.work.items l.self.bounds.items;
  keeps : Keeps l.fn.self.marks.items l.self.marks.items;
  met : fresh (mark_at l.self.marks.items l.root) ≡ false;
}

abbrev pub decreases-search : goal.decreases-search
decreases-search l = weight l.graph l.self.marks.items l.self.next.items l.self.work.items l.self.bounds.items
