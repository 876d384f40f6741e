-- The ranks of a graph, and its nodes in order of rank and then of number.
-- The rule is told in docs/RULES.md, "Dependencies and rank".
use Rattle.std.specs.Prelude.{◌≡◌, ◌<◌, ◌+◌, ◌⊎◌, ℕ, List, [], ◌∷◌, max, length, Contains, slice_index}
use Rattle.graph_rank.specs.Rows.{row}

-- one more than the greatest rank of these nodes, and 0 where there is none
abbrev pub above : (ℕ → ℕ) → List ℕ → ℕ
above rank [] = 0
above rank (d ∷ ds) = max (rank d + 1) (above rank ds)

-- a node has a rank where all nodes on which it depends have one, and its rank is the number above theirs
pub data HasRank (rows : List (List ℕ)) : ℕ → ℕ → Type 0 where
  ranked : (n k : ℕ) (rank : ℕ → ℕ) → n < length rows
      → ((d : ℕ) → Contains (row rows n) d → HasRank rows d (rank d))
      → k ≡ above rank (row rows n)
      → HasRank rows n k

-- each node has a rank
abbrev pub AllRanked : List (List ℕ) → Type 0
AllRanked rows = (n : ℕ) → n < length rows → (k : ℕ) × HasRank rows n k

-- a node of lesser rank comes first, and of two nodes of one rank the one of lesser number
abbrev pub ComesBefore : List ℕ → ℕ → ℕ → Type 0
ComesBefore ranks a b =
    (slice_index ranks a < slice_index ranks b)
    ⊎ ((slice_index ranks a ≡ slice_index ranks b) × (a < b))

-- the rank of each node, and the nodes in order
pub record Ranking : Type 0 where
  pub ranks : List ℕ
  pub order : List ℕ

-- The ranks are those of the graph, and each node stands in the order, once, since each entry comes
-- before the next.
pub record IsRanking (rows : List (List ℕ)) (r : Ranking) : Type 0 where
  pub ranks_count : length r.ranks ≡ length rows
  pub order_count : length r.order ≡ length rows
  pub has_rank : (n : ℕ) → n < length rows → HasRank rows n (slice_index r.ranks n)
  pub in_range : (k : ℕ) → k < length r.order → slice_index r.order k < length rows
  pub all : (n : ℕ) → n < length rows → Contains r.order n
  pub rises : (k : ℕ) → k + 1 < length r.order
      → ComesBefore r.ranks (slice_index r.order k) (slice_index r.order (k + 1))

-- all on which a node depends stands earlier in the order than the node
abbrev pub IsOrder : List (List ℕ) → List ℕ → Type 0
IsOrder rows order = (i j : ℕ) → i < length order → j < length order
    → Contains (row rows (slice_index order i)) (slice_index order j) → j < i
