-- What the depth-first search for ranks knows at each step.
use Rattle.std.specs.Prelude.{◌≡◌, ◌≢◌, ◌<◌, ◌≤◌, ◌+◌, ◌-◌, ◌*◌, ◌⊎◌, ◌^◌, ℕ, Bool, true, false, List, length, count_by, Contains, slice_index, slice_index_or}
use Rattle.graph_rank.specs.declared.search.Mark.{Mark}
use Rattle.graph_rank.specs.declared.search.Mark.TheVariants.{Fresh, Met, Ranked}
use Rattle.graph_rank.specs.Rows.{row, InRange}
use Rattle.graph_rank.specs.Ranks.{HasRank}

abbrev pub fresh : Mark → Bool
fresh Fresh = true
fresh Met = false
fresh (Ranked r) = false

abbrev pub ranked : Mark → Bool
ranked Fresh = false
ranked Met = false
ranked (Ranked r) = true

abbrev pub rank_of : Mark → ℕ
rank_of Fresh = 0
rank_of Met = 0
rank_of (Ranked r) = r

abbrev pub mark_at : List Mark → ℕ → Mark
mark_at marks n = slice_index_or marks n Fresh

abbrev pub rank_at : List Mark → ℕ → ℕ
rank_at marks n = rank_of (mark_at marks n)

-- the nodes before a place in a row are ranked
abbrev pub RankedBelow : List Mark → List ℕ → ℕ → Type 0
RankedBelow marks needs end = (k : ℕ) → k < end → ranked (mark_at marks (slice_index needs k)) ≡ true

-- a node needs one that was met, was not ranked, and is on the trail no more
pub record IsStuck (rows : List (List ℕ)) (marks : List Mark) (trail : List ℕ) (n : ℕ) : Type 0 where
  pub need : ℕ
  pub needed : Contains (row rows n) need
  pub met : mark_at marks need ≡ Met
  pub left : Contains trail need → ⊥

-- The search: a mark for each node, how far it has come in the row of each node, and the trail of
-- nodes that it is in, each of which needs the next.
pub record IsSearch (rows : List (List ℕ)) (marks : List Mark) (next trail : List ℕ) : Type 0 where
  pub small : length rows < 2 ^ 32
  pub bounds : InRange rows
  pub marks_count : length marks ≡ length rows
  pub next_count : length next ≡ length rows
  pub within : (n : ℕ) → n < length rows → slice_index next n ≤ length (row rows n)
  pub passed : (n : ℕ) → n < length rows → RankedBelow marks (row rows n) (slice_index next n)
  pub trail_bounds : (k : ℕ) → k < length trail → slice_index trail k < length rows
  pub on_trail : (k : ℕ) → k < length trail → mark_at marks (slice_index trail k) ≡ Met
  pub once : (j k : ℕ) → j < k → k < length trail → slice_index trail j ≢ slice_index trail k
  pub path : (k : ℕ) → k + 1 < length trail → Contains (row rows (slice_index trail k)) (slice_index trail (k + 1))
  pub held : (n : ℕ) → n < length rows → mark_at marks n ≡ Met → Contains trail n ⊎ IsStuck rows marks trail n
  pub has_rank : (n : ℕ) → n < length rows → ranked (mark_at marks n) ≡ true → HasRank rows n (rank_at marks n)
  pub low : (n : ℕ) → n < length rows → ranked (mark_at marks n) ≡ true → rank_at marks n < count_by ranked marks

-- how many steps are left at most, for each node that is fresh the one to enter it and the one to leave it
abbrev pub weight : List Mark → List ℕ → ℕ
weight marks trail = 2 * count_by fresh marks + length trail

-- what was met stays so
abbrev pub Keeps : List Mark → List Mark → Type 0
Keeps before after = (n : ℕ) → fresh (mark_at before n) ≡ false → fresh (mark_at after n) ≡ false

-- one step of the search
pub record IsStep (rows : List (List ℕ)) (before : List Mark) (way : List ℕ) (after : List Mark) (next trail : List ℕ) : Type 0 where
  pub search : IsSearch rows after next trail
  pub keeps : Keeps before after
  pub less : weight after trail < weight before way

-- the last node of the trail
pub record IsLast (trail : List ℕ) (n : ℕ) : Type 0 where
  pub some : 0 < length trail
  pub here : slice_index trail (length trail - 1) ≡ n

-- the marks when the search is done: a node that has no rank needs another such node
pub record AreMarks (rows : List (List ℕ)) (marks : List Mark) : Type 0 where
  pub small : length rows < 2 ^ 32
  pub bounds : InRange rows
  pub count : length marks ≡ length rows
  pub has_rank : (n : ℕ) → n < length rows → ranked (mark_at marks n) ≡ true → HasRank rows n (rank_at marks n)
  pub stuck : (n : ℕ) → n < length rows → ranked (mark_at marks n) ≡ false
      → (d : ℕ) × Contains (row rows n) d × (ranked (mark_at marks d) ≡ false)
