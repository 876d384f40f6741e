-- Inside the placement: the rooms that are left, and the chip that is chosen by them.
use Rattle.std.specs.Prelude.{◌≡◌, ◌<◌, ◌≤◌, ◌+◌, ℕ, List, Result, Ok, Err, length, slice_get, slice_index, Some}
use Rattle.id_arena.specs.declared.keys.ChipId.{ChipId}
use Rattle.id_arena.specs.declared.keys.ElemId.{ElemId}
use Rattle.design_core.specs.declared.parts.Parts.{Parts}
use Rattle.seed_place.specs.declared.fault.SeedFault.{SeedFault}
use Rattle.seed_place.specs.declared.fault.SeedFault.TheVariants.{NoRoom, NoMemory}
use Rattle.seed_place.specs.Rooms.{load, room}
use Rattle.seed_place.specs.Seed.{IsFirstPlacement}

-- the first chip of which as much room is left
pub record IsFirstLeft (left : List ℕ) (w c : ℕ) : Type 0 where
  pub there : c < length left
  pub fits : w ≤ slice_index left c
  pub full : (d : ℕ) → d < c → slice_index left d < w

-- the chip that is chosen for an element, or the fault that none is; it is never want of memory
abbrev pub Chooses : List ℕ → ℕ → ElemId → Result ChipId SeedFault → Type 0
Chooses left w elem (Ok chip) = IsFirstLeft left w chip.place
Chooses left w elem (Err (NoRoom other)) = (other ≡ elem) × ((c : ℕ) → c < length left → slice_index left c < w)
Chooses left w elem (Err NoMemory) = ⊥

-- so many elements are placed by the rule, and of each room so much is left
pub record IsPlacing (p : Parts) (rooms : List ℕ) (placed : ℕ) (chips : List ChipId) (left : List ℕ) : Type 0 where
  pub count : length chips ≡ placed
  pub rule : IsFirstPlacement p rooms chips
  pub there : (k : ℕ) (chip : ChipId) → slice_get chips k ≡ Some chip → chip.place < length rooms
  pub as_many : length left ≡ length rooms
  pub rest : (c : ℕ) → c < length rooms → load p chips c + slice_index left c ≡ room rooms c
