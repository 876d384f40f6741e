-- What stands on each chip, and when a placement keeps the rooms of a board.
-- The rule is told in docs/RULES.md, "Weights and the first placement".
use Rattle.std.specs.Prelude.{◌≡◌, ◌<◌, ◌≤◌, ℕ, ◌==◌, if◌then◌else◌, List, Some, length, slice_get, slice_index, sum_by, zip}
use Rattle.id_arena.specs.declared.keys.ChipId.{ChipId}
use Rattle.design_core.specs.declared.element.Element.{Element}
use Rattle.design_core.specs.declared.parts.Parts.{Parts}
use Rattle.design_core.specs.Weight.{weight}

-- what an element takes of a chip's room: its weight where it stands on that chip
abbrev pub taken : Parts → ℕ → Element → ChipId → ℕ
taken p c e chip = if chip.place == c then weight p e else 0

-- The weight on a chip: the sum over the elements that stand on it. The first elements of the design have
-- these chips, one each.
abbrev pub load : Parts → List ChipId → ℕ → ℕ
load p chips c = sum_by (λ (e, chip). taken p c e chip) (zip p.elements chips)

-- the room of a chip
abbrev pub room : List ℕ → ℕ → ℕ
room rooms c = slice_index rooms c

-- each element has a chip of the board, and no chip has more on it than its room
pub record IsWithinRooms (p : Parts) (rooms : List ℕ) (chips : List ChipId) : Type 0 where
  pub one_each : length chips ≡ length p.elements
  pub there : (k : ℕ) (chip : ChipId) → slice_get chips k ≡ Some chip → chip.place < length rooms
  pub fits : (c : ℕ) → c < length rooms → load p chips c ≤ room rooms c
