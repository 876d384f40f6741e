-- Inside: how the distances from a chip grow, one round of all wires after the other.
use Rattle.std.specs.Prelude.{◌≡◌, ◌⊎◌, ◌≤◌, ◌<◌, ◌^◌, ◌==◌, ◌&&◌, ℕ, ◌+◌, Bool, true, false, Option, Some, None, List, length, count_by, nat_lt, slice_get, slice_index_or}
use Rattle.std.specs.Option.{is_none}
use Rattle.id_arena.specs.declared.keys.ChipId.{ChipId}
use Rattle.id_arena.specs.declared.wire.Wire.{Wire}
use Rattle.id_arena.specs.BoardPlan.{BoardPlan}
use Rattle.board_model.specs.Trees.{Joins, Path, HasDistance}

-- the distance of a chip, where one was found
abbrev pub found : List (Option ℕ) → ℕ → Option ℕ
found distances chip = slice_index_or distances chip None

-- whether this is a certain distance
abbrev pub is_at : Option ℕ → ℕ → Bool
is_at None distance = false
is_at (Some at) distance = at == distance

-- whether the one chip is at a distance and the other has none
abbrev pub goes_on : List (Option ℕ) → ℕ → ℕ → ℕ → Bool
goes_on distances from to distance = is_at (found distances from) distance && is_none (found distances to)

-- all chips to which a path of so many wires leads, and no others, have their distance
pub record IsReached (plan : BoardPlan) (root wires : ℕ) (distances : List (Option ℕ)) : Type 0 where
  pub count : length distances ≡ length plan.rooms
  pub paths : (chip distance : ℕ) → found distances chip ≡ Some distance → Path plan root chip distance
  pub few : (chip distance : ℕ) → found distances chip ≡ Some distance → distance ≤ wires
  pub all : (chip length : ℕ) → Path plan root chip length → length ≤ wires
      → (distance : ℕ) × (found distances chip ≡ Some distance) × (distance ≤ length)
  pub steps : wires + count_by is_none distances < 2 ^ 32

-- each chip to which a path leads has its distance, and no other has one
pub record AreDistances (plan : BoardPlan) (root : ℕ) (distances : List (Option ℕ)) : Type 0 where
  pub count : length distances ≡ length plan.rooms
  pub each : (chip distance : ℕ) → found distances chip ≡ Some distance → HasDistance plan root chip distance
  pub others : (chip : ℕ) → found distances chip ≡ None → (wires : ℕ) → Path plan root chip wires → ⊥

-- the first wires, so many, have taken chips of one distance one further
pub record IsRound (plan : BoardPlan) (wires distance : ℕ) (before after : List (Option ℕ)) (more : Bool) : Type 0 where
  pub count : length after ≡ length before
  pub kept : (chip at : ℕ) → found before chip ≡ Some at → found after chip ≡ Some at
  pub fresh : (chip at : ℕ) → found after chip ≡ Some at
      → (found before chip ≡ Some at) ⊎ ((at ≡ distance + 1) × ((from : ℕ) × (found before from ≡ Some distance) × Joins plan from chip))
  pub reached : (number : ℕ) (wire : Wire) → number < wires → slice_get plan.wires number ≡ Some wire
      → found before wire.from.place ≡ Some distance → (at : ℕ) × (found after wire.to.place ≡ Some at)
  pub same : more ≡ false → after ≡ before
  pub fewer : more ≡ true → count_by is_none after < count_by is_none before
  pub no_more : count_by is_none after ≤ count_by is_none before

-- whether this is the distance before another
abbrev pub is_before : Option ℕ → ℕ → Bool
is_before None distance = false
is_before (Some near) distance = near + 1 == distance

-- whether a chip is lower than one that may be there
abbrev pub is_below : ℕ → Option ChipId → Bool
is_below chip None = true
is_below chip (Some other) = nat_lt chip other.place

-- a wire goes to this chip from one that is one step nearer
abbrev pub Comes : BoardPlan → List (Option ℕ) → ℕ → ℕ → ℕ → ℕ → Type 0
Comes plan distances chip distance number from =
    (wire : Wire) × (slice_get plan.wires number ≡ Some wire) × (wire.from.place ≡ from) × (wire.to.place ≡ chip)
    × (is_before (found distances from) distance ≡ true)

-- the lowest chip from which one of the first wires, so many, comes, if one does
abbrev pub IsLowest : BoardPlan → List (Option ℕ) → ℕ → ℕ → ℕ → Option ChipId → Type 0
IsLowest plan distances chip distance wires None = (number from : ℕ) → number < wires → Comes plan distances chip distance number from → ⊥
IsLowest plan distances chip distance wires (Some parent) =
    ((number : ℕ) × Comes plan distances chip distance number parent.place)
    × ((number from : ℕ) → number < wires → Comes plan distances chip distance number from → parent.place ≤ from)
