-- Rows of bits, as contracts see them.
use Rattle.std.specs.Prelude.{◌≡◌, ℕ, ◌-◌, ◌<◌, ◌≤◌, Bool, true, false, List, [], ◌++◌, Option, None, Some, map, max, length, replicate, slice_index_or, slice_set}

-- the bits of each row, and the number of bits in a row
pub record BitTable : Type 0 where
  pub rows : List (List Bool)
  pub width : ℕ

-- the bits of a row, none where there is no such row
abbrev pub bits_at : BitTable → ℕ → List Bool
bits_at table row = slice_index_or table.rows row []

-- whether a bit of a row is set
abbrev pub is_set : List Bool → ℕ → Bool
is_set bits at = slice_index_or bits at false

-- a table with all bits clear
abbrev pub clear_table : ℕ → ℕ → BitTable
clear_table rows width = record { rows = replicate rows (replicate width false); width = width }

-- a table that is at least so wide, where the new bits are clear
abbrev pub widened : BitTable → ℕ → BitTable
widened table width = record {
  rows = map (λ bits. bits ++ replicate (width - table.width) false) table.rows;
  width = max width table.width;
}

-- a table in which one bit is set or cleared
abbrev pub with_bit : BitTable → ℕ → ℕ → Bool → BitTable
with_bit table row at value = record {
  rows = slice_set table.rows row (slice_set (bits_at table row) at value);
  width = table.width;
}

-- the first clear bit from a place on: it is clear and all before it are set, or all from there on are set
abbrev pub IsFirstClear : List Bool → ℕ → Option ℕ → Type 0
IsFirstClear bits from None = (k : ℕ) → from ≤ k → k < length bits → is_set bits k ≡ true
IsFirstClear bits from (Some at) = (from ≤ at) × (at < length bits) × (is_set bits at ≡ false) × ((k : ℕ) → from ≤ k → k < at → is_set bits k ≡ true)

-- each row has as many bits as the table is wide
abbrev pub IsRectangular : BitTable → Type 0
IsRectangular table = (row : ℕ) → row < length table.rows → length (bits_at table row) ≡ table.width
