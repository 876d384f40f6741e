-- The cut of a placement: how many chips read nets whose home is another chip.
-- The rule is told in docs/RULES.md, "Cut and descent".
use Rattle.std.specs.Prelude.{ℕ, ◌^◌, ◌==◌, ◌&&◌, not, List, Option, Some, None, count_by, sum_by}
use Rattle.std.specs.List.{range_with_len}
use Rattle.id_arena.specs.declared.keys.ChipId.{ChipId}
use Rattle.design_core.specs.declared.parts.Parts.{Parts}
use Rattle.gain_place.specs.Homes.{home, is_reader, nets}

-- every number that a chip may have
unfoldable pub chip_numbers : List ℕ
chip_numbers = range_with_len 0 (2 ^ 32)

-- the number of readers of a net other than its home; a net without a home has none that count
abbrev pub readers_away : Parts → List ChipId → ℕ → Option ℕ → ℕ
readers_away p chips n None = 0
readers_away p chips n (Some h) = count_by (λ c. is_reader p chips n c && not (h == c)) chip_numbers

-- the same of a net with the home that it has
abbrev pub crossings : Parts → List ChipId → ℕ → ℕ
crossings p chips n = readers_away p chips n (home p chips n)

-- the sum of these numbers over all nets
unfoldable pub cut : Parts → List ChipId → ℕ
cut p chips = sum_by (crossings p chips) (nets p)
