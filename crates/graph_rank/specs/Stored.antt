-- How rows are stored: their items in one list, and where each row ends.
use Rattle.std.specs.Prelude.{◌≡◌, ◌≤◌, ◌<◌, ◌^◌, ℕ, zero, suc, List, [], ◌∷◌, length, slice_index, slice_range}

-- the rows of some items, the first from a place on, and each next from the end of the one before
abbrev pub cut_rows : List ℕ → ℕ → List ℕ → List (List ℕ)
cut_rows items start [] = []
cut_rows items start (end ∷ ends) = slice_range items start end ∷ cut_rows items end ends

-- where a row begins
abbrev pub start_of : ℕ → List ℕ → ℕ → ℕ
start_of start ends zero = start
start_of start ends (suc k) = slice_index ends k

-- rows end in order, the last one at the end of the items
pub record IsStored (items ends : List ℕ) : Type 0 where
  pub count : length ends < 2 ^ 32
  pub rises : (k : ℕ) → k < length ends → start_of 0 ends k ≤ slice_index ends k
  pub within : (k : ℕ) → k < length ends → slice_index ends k ≤ length items
  pub full : start_of 0 ends (length ends) ≡ length items
