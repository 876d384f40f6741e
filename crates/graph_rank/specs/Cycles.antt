-- The one cycle that is told of a graph in which some node has no rank.
-- The rule is told in docs/RULES.md, "Dependencies and rank".
use Rattle.std.specs.Prelude.{◌≢◌, ◌<◌, ◌≤◌, ◌+◌, ℕ, List, [], ◌∷◌, ◌++◌, length, Contains, slice_index}
use Rattle.graph_rank.specs.Rows.{row}
use Rattle.graph_rank.specs.Ranks.{HasRank}

-- a node of the graph that has no rank
pub record Unranked (rows : List (List ℕ)) (n : ℕ) : Type 0 where
  pub in_range : n < length rows
  pub no_rank : (k : ℕ) → HasRank rows n k → ⊥

-- the least node without rank
pub record IsFirst (rows : List (List ℕ)) (n : ℕ) : Type 0 where
  pub here : Unranked rows n
  pub least : (m : ℕ) → Unranked rows m → n ≤ m

-- the least node without rank among those on which a node depends
pub record IsNext (rows : List (List ℕ)) (a b : ℕ) : Type 0 where
  pub needed : Contains (row rows a) b
  pub here : Unranked rows b
  pub least : (d : ℕ) → Contains (row rows a) d → Unranked rows d → b ≤ d

-- a walk from the least node without rank, on each time to the least dependency without rank
pub record IsWalk (rows : List (List ℕ)) (walk : List ℕ) : Type 0 where
  pub first : IsFirst rows (slice_index walk 0)
  pub steps : (k : ℕ) → k + 1 < length walk → IsNext rows (slice_index walk k) (slice_index walk (k + 1))

-- no node stands in the list twice
abbrev pub AreDistinct : List ℕ → Type 0
AreDistinct nodes = (j k : ℕ) → j < k → k < length nodes → slice_index nodes j ≢ slice_index nodes k

-- The walk goes on until a node comes again, and the cycle is the walk from that node's first place on.
pub record IsCycle (rows : List (List ℕ)) (cycle : List ℕ) : Type 0 where
  pub lead : List ℕ
  pub some : 0 < length cycle
  pub walk : IsWalk rows (lead ++ cycle ++ slice_index cycle 0 ∷ [])
  pub once : AreDistinct (lead ++ cycle)
