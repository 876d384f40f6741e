-- The first placement of a design, and the first element that finds no chip.
-- The rule is told in docs/RULES.md, "Weights and the first placement".
use Rattle.std.specs.Prelude.{◌≡◌, ◌≢◌, ◌<◌, ◌≤◌, ◌+◌, ℕ, List, Result, Ok, Err, Some, length, take, slice_get}
use Rattle.id_arena.specs.declared.keys.ChipId.{ChipId}
use Rattle.design_core.specs.declared.element.Element.{Element}
use Rattle.design_core.specs.declared.parts.Parts.{Parts}
use Rattle.design_core.specs.Weight.{weight}
use Rattle.seed_place.specs.declared.fault.SeedFault.{SeedFault}
use Rattle.seed_place.specs.declared.fault.SeedFault.TheVariants.{NoRoom, NoMemory}
use Rattle.seed_place.specs.Rooms.{load, room}

-- the first chip with room for so much weight beside what stands on the chips
pub record IsFirstWithRoom (p : Parts) (rooms : List ℕ) (chips : List ChipId) (w c : ℕ) : Type 0 where
  pub there : c < length rooms
  pub fits : load p chips c + w ≤ room rooms c
  pub full : (d : ℕ) → d < c → room rooms d < load p chips d + w

-- The first elements of the design have these chips, one each, by the rule: each stands on the first chip
-- with room for it beside the elements before it.
pub record IsFirstPlacement (p : Parts) (rooms : List ℕ) (chips : List ChipId) : Type 0 where
  pub few : length chips ≤ length p.elements
  pub first : (k : ℕ) (e : Element) (chip : ChipId) → slice_get p.elements k ≡ Some e → slice_get chips k ≡ Some chip
      → IsFirstWithRoom p rooms (take k chips) (weight p e) chip.place

-- the elements before this one are placed by the rule, and then no chip has room for it
pub record FindsNoChip (p : Parts) (rooms : List ℕ) (k : ℕ) : Type 0 where
  pub chips : List ChipId
  pub placed : IsFirstPlacement p rooms chips
  pub before : length chips ≡ k
  pub element : Element
  pub here : slice_get p.elements k ≡ Some element
  pub full : (c : ℕ) → c < length rooms → room rooms c < load p chips c + weight p element

-- the answer is the first placement of all elements, or the first element that finds no chip
abbrev pub Answers : Parts → List ℕ → Result (List ChipId) SeedFault → Type 0
Answers p rooms (Ok chips) = IsFirstPlacement p rooms chips × (length chips ≡ length p.elements)
Answers p rooms (Err (NoRoom elem)) = FindsNoChip p rooms elem.place
Answers p rooms (Err NoMemory) = Unit {0}

-- a design has one answer on a board, want of memory aside
abbrev pub EachDesignHasOneSeed : Type 0
EachDesignHasOneSeed =
    (p : Parts) (rooms : List ℕ) (first second : Result (List ChipId) SeedFault) → first ≢ Err NoMemory → second ≢ Err NoMemory → Answers p rooms first → Answers p rooms second → first ≡ second
