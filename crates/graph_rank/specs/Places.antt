-- How the nodes are put in order: each node with its rank, before and after they are sorted.
use Rattle.std.specs.Prelude.{◌≡◌, ◌<◌, ◌+◌, ℕ, true, false, Option, Some, None, List, length, map, Contains, slice_index, slice_index_or}
use Rattle.graph_rank.specs.declared.search.Mark.{Mark}
use Rattle.graph_rank.specs.declared.order.Place.{Place}
use Rattle.graph_rank.specs.Ranks.{ComesBefore, Ranking}
use Rattle.graph_rank.specs.Search.{ranked, rank_of, mark_at, rank_at}

-- a node with its rank
abbrev pub place_of : List Mark → ℕ → Place
place_of marks n = record { rank = rank_at marks n; node = n }

-- the first nodes with their ranks
pub record ArePlaces (marks : List Mark) (n : ℕ) (places : List Place) : Type 0 where
  pub count : length places ≡ n
  pub each : (k : ℕ) → k < n → slice_index_or places k (place_of marks k) ≡ place_of marks k

-- the ranks that the marks tell, and the nodes in order of these
pub record IsInOrder (marks : List Mark) (r : Ranking) : Type 0 where
  pub ranks : r.ranks ≡ map rank_of marks
  pub order_count : length r.order ≡ length marks
  pub in_range : (k : ℕ) → k < length r.order → slice_index r.order k < length marks
  pub all : (n : ℕ) → n < length marks → Contains r.order n
  pub rises : (k : ℕ) → k + 1 < length r.order
      → ComesBefore r.ranks (slice_index r.order k) (slice_index r.order (k + 1))

-- the least node that has no rank, if there is one
abbrev pub IsFirstUnranked : List Mark → Option ℕ → Type 0
IsFirstUnranked marks None = (n : ℕ) → n < length marks → ranked (mark_at marks n) ≡ true
IsFirstUnranked marks (Some n) =
    (n < length marks) × (ranked (mark_at marks n) ≡ false) × ((m : ℕ) → m < n → ranked (mark_at marks m) ≡ true)
