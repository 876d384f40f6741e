-- Which moves may be made, the best of them, and the descent of a placement.
-- The rule is told in docs/RULES.md, "Cut and descent".
use Rattle.std.specs.Prelude.{◌≡◌, ◌≢◌, ◌<◌, ◌≤◌, ◌+◌, ◌^◌, ◌==◌, ◌&&◌, ◌||◌, ℕ, Bool, false, is_some, pos, ◌<ℤ◌, ◌≤ℤ◌, List, [], ◌∷◌, length, option_map, unwrap_or, slice_get}
use Rattle.std.specs.List.{list_any}
use Rattle.id_arena.specs.declared.keys.ChipId.{ChipId}
use Rattle.design_core.specs.declared.parts.Parts.{Parts}
use Rattle.design_core.specs.Weight.{weight}
use Rattle.seed_place.specs.Rooms.{IsWithinRooms, load, room}
use Rattle.gain_place.specs.declared.moves.Move.{Move}
use Rattle.gain_place.specs.Homes.{chip_at, nets, source, touches}
use Rattle.gain_place.specs.Cut.{cut}
use Rattle.gain_place.specs.Gain.{moved, gain}

-- the weight of an element, by its number
abbrev pub weight_at : Parts → ℕ → ℕ
weight_at p k = unwrap_or (option_map (weight p) (slice_get p.elements k)) 0

-- a move takes an element to another chip of the board, whose room left is at least the element's weight
pub record IsMove (p : Parts) (rooms : List ℕ) (chips : List ChipId) (m : Move) : Type 0 where
  pub here : m.elem.place < length p.elements
  pub there : m.to.place < length rooms
  pub other : chip_at chips m.elem.place ≢ m.to.place
  pub fits : load p chips m.to.place + weight_at p m.elem.place ≤ room rooms m.to.place

-- A move is best where no move has a greater gain, none of equal gain is of a lower element, and none of equal
-- gain and the same element goes to a lower chip.
pub record IsBest (p : Parts) (rooms : List ℕ) (chips : List ChipId) (m : Move) : Type 0 where
  pub move : IsMove p rooms chips m
  pub greatest : (other : Move) → IsMove p rooms chips other → gain p chips other ≤ℤ gain p chips m
  pub lowest : (other : Move) → IsMove p rooms chips other → gain p chips other ≡ gain p chips m
      → m.elem.place ≤ other.elem.place
  pub lowest_chip : (other : Move) → IsMove p rooms chips other → gain p chips other ≡ gain p chips m → other.elem ≡ m.elem
      → m.to.place ≤ other.to.place

-- no move has positive gain
abbrev pub NoneGains : Parts → List ℕ → List ChipId → Type 0
NoneGains p rooms chips = (m : Move) → IsMove p rooms chips m → gain p chips m ≤ℤ pos 0

-- these moves, each the best and of positive gain, lead from a placement to one from which no move has
-- positive gain
abbrev pub IsDescent : Parts → List ℕ → List ChipId → List Move → List ChipId → Type 0
IsDescent p rooms chips [] end = (chips ≡ end) × NoneGains p rooms chips
IsDescent p rooms chips (m ∷ ms) end =
    IsBest p rooms chips m × (pos 0 <ℤ gain p chips m) × IsDescent p rooms (moved chips m) ms end

-- the descent of a placement ends here
abbrev pub Descends : Parts → List ℕ → List ChipId → List ChipId → Type 0
Descends p rooms start end = (ms : List Move) × IsDescent p rooms start ms end

-- a placement has at most one end of its descent
abbrev pub EachStartHasOneEnd : Type 0
EachStartHasOneEnd =
    (p : Parts) (rooms : List ℕ) (start first second : List ChipId)
    → Descends p rooms start first
    → Descends p rooms start second
    → first ≡ second

-- Each move of a descent takes at least 1 from the cut, and no move from its end takes any.
abbrev pub DescentsLowerTheCut : Type 0
DescentsLowerTheCut =
    (p : Parts) (rooms : List ℕ) (start end : List ChipId) (ms : List Move) → IsDescent p rooms start ms end
    → (cut p end + length ms ≤ cut p start) × ((m : Move) → IsMove p rooms end m → cut p end ≤ cut p (moved end m))

-- a descent from a placement within the rooms of a board ends within them
abbrev pub DescentsKeepRooms : Type 0
DescentsKeepRooms =
    (p : Parts) (rooms : List ℕ) (start end : List ChipId) (ms : List Move)
    → IsWithinRooms p rooms start
    → IsDescent p rooms start ms end
    → IsWithinRooms p rooms end

-- whether two elements share a net that has a home, or are one
abbrev pub shares : Parts → ℕ → ℕ → Bool
shares p k j = (j == k) || list_any (λ n. is_some (source p n) && (touches p n k && touches p n j)) (nets p)

-- a move leaves the gain of each move of an element that shares no net with a home with the moved one
abbrev pub OthersKeepTheirGains : Type 0
OthersKeepTheirGains =
    (p : Parts) (chips : List ChipId) (m other : Move)
    → length chips ≡ length p.elements
    → m.elem.place < length p.elements
    → other.elem.place < length p.elements
    → ((k : ℕ) → k < length p.elements → chip_at chips k < 2 ^ 32)
    → m.to.place < 2 ^ 32
    → other.to.place < 2 ^ 32
    → shares p m.elem.place other.elem.place ≡ false
    → gain p (moved chips m) other ≡ gain p chips other
