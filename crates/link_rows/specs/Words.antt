-- How the bits of a row stand in words of 64 bits, the first bit lowest.
use Rattle.std.specs.Prelude.{◌≡◌, ℕ, ◌*◌, ◌/◌, ◌%◌, ◌<◌, ◌≤◌, Bool, true, false, List, [], Option, None, Some, map, length, nat_eq, slice_index, slice_index_or}
use Rattle.std.specs.Int.{bit_at}
use Rattle.std.specs.List.{range_with_len}
use Rattle.link_rows.specs.BitRows.{BitTable}

-- whether a bit of the words is set
abbrev pub bit_in : List ℕ → ℕ → Bool
bit_in words at = nat_eq (bit_at (slice_index words (at / 64)) (at % 64)) 1

-- the first bits of the words
abbrev pub bits_of : ℕ → List ℕ → List Bool
bits_of width words = map (bit_in words) (range_with_len 0 width)

-- the words of a row, none where there is no such row
abbrev pub words_at : List (List ℕ) → ℕ → List ℕ
words_at rows row = slice_index_or rows row []

-- the table of rows of words
abbrev pub table_of : ℕ → List (List ℕ) → BitTable
table_of width rows = record { rows = map (bits_of width) rows; width = width }

-- each row has words for all its bits, and what lies beyond them is clear
pub record HasRoom (width : ℕ) (rows : List (List ℕ)) : Type 0 where
  pub room : (row : ℕ) → row < length rows → width ≤ 64 * length (words_at rows row)
  pub clear : (row at : ℕ) → width ≤ at → bit_in (words_at rows row) at ≡ false

-- rows with the same bits, each at least as long
pub record SameBits (old new : List (List ℕ)) : Type 0 where
  pub count : length new ≡ length old
  pub bits : (row at : ℕ) → bit_in (words_at new row) at ≡ bit_in (words_at old row) at
  pub longer : (row : ℕ) → length (words_at old row) ≤ length (words_at new row)

-- the first clear bit of a word from a place on, or none: all before it, or all from there on, are set
abbrev pub IsFirstClearIn : ℕ → ℕ → Option ℕ → Type 0
IsFirstClearIn word from None = (k : ℕ) → from ≤ k → k < 64 → bit_at word k ≡ 1
IsFirstClearIn word from (Some at) = (from ≤ at) × (at < 64) × (bit_at word at ≡ 0) × ((k : ℕ) → from ≤ k → k < at → bit_at word k ≡ 1)

-- the first clear bit of the words from a place on and below the width
abbrev pub IsFirstClearBelow : List ℕ → ℕ → ℕ → Option ℕ → Type 0
IsFirstClearBelow words width from None = (k : ℕ) → from ≤ k → k < width → bit_in words k ≡ true
IsFirstClearBelow words width from (Some at) = (from ≤ at) × (at < width) × (bit_in words at ≡ false) × ((k : ℕ) → from ≤ k → k < at → bit_in words k ≡ true)
