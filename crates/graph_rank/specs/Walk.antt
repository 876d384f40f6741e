-- What the walk to the cycle knows at each step.
use Rattle.std.specs.Prelude.{◌≡◌, ◌<◌, ◌≤◌, ℕ, false, Option, Some, None, List, [], ◌∷◌, ◌++◌, length, Contains, slice_index, slice_index_or}
use Rattle.graph_rank.specs.declared.search.Mark.{Mark}
use Rattle.graph_rank.specs.Cycles.{IsWalk}
use Rattle.graph_rank.specs.Search.{ranked, mark_at}

-- the least node of a row that has no rank
pub record IsLeastUnranked (marks : List Mark) (needs : List ℕ) (n : ℕ) : Type 0 where
  pub needed : Contains needs n
  pub unranked : ranked (mark_at marks n) ≡ false
  pub least : (d : ℕ) → Contains needs d → ranked (mark_at marks d) ≡ false → n ≤ d

-- The nodes that were walked, and for each node its place among them, where it has one; the walk goes
-- on to one more node.
pub record IsWalking (rows : List (List ℕ)) (walk : List ℕ) (places : List (Option ℕ)) (node : ℕ) : Type 0 where
  pub count : length places ≡ length rows
  pub walks : IsWalk rows (walk ++ node ∷ [])
  pub nodes : (k : ℕ) → k < length walk → slice_index walk k < length rows
  pub found : (k : ℕ) → k < length walk → slice_index_or places (slice_index walk k) None ≡ Some k
  pub placed : (n k : ℕ) → slice_index_or places n None ≡ Some k → (k < length walk) × (slice_index walk k ≡ n)
  pub next_bounds : node < length rows
