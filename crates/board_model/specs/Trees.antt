-- The tree of a chip: how far it is from there to each chip, and from which chip each is reached.
-- The rule is told in docs/RULES.md, "Trees".
use Rattle.std.specs.Prelude.{◌≡◌, ◌⊎◌, ◌<◌, ◌≤◌, ℕ, ◌+◌, Option, Some, None, List, length, slice_get, slice_index_or}
use Rattle.id_arena.specs.declared.keys.ChipId.{ChipId}
use Rattle.id_arena.specs.declared.wire.Wire.{Wire}
use Rattle.id_arena.specs.BoardPlan.{BoardPlan}

-- some wire goes from the one chip to the other
pub record Joins (plan : BoardPlan) (from to : ℕ) : Type 0 where
  pub number : ℕ
  pub wire : Wire
  pub here : slice_get plan.wires number ≡ Some wire
  pub starts : wire.from.place ≡ from
  pub ends : wire.to.place ≡ to

-- a path over so many wires, each in its direction, leads from the root to a chip
pub data Path (plan : BoardPlan) (root : ℕ) : ℕ → ℕ → Type 0 where
  here : Path plan root root 0
  further : (from to wires : ℕ) → Path plan root from wires → Joins plan from to → Path plan root to (wires + 1)

-- the distance of a chip is the number of wires of a shortest path
pub record HasDistance (plan : BoardPlan) (root chip distance : ℕ) : Type 0 where
  pub path : Path plan root chip distance
  pub least : (wires : ℕ) → Path plan root chip wires → distance ≤ wires

-- a chip that is one step nearer to the root and has a wire to this one
pub record IsNearer (plan : BoardPlan) (root chip distance nearer : ℕ) : Type 0 where
  pub before : ℕ
  pub step : distance ≡ before + 1
  pub reached : HasDistance plan root nearer before
  pub joined : Joins plan nearer chip

-- the parent of a chip at a distance is the lowest of the chips that are nearer
pub record IsParent (plan : BoardPlan) (root chip parent distance : ℕ) : Type 0 where
  pub reached : HasDistance plan root chip distance
  pub nearer : IsNearer plan root chip distance parent
  pub lowest : (other : ℕ) → IsNearer plan root chip distance other → parent ≤ other

-- what a tree tells of a chip: its parent and its distance, or that it is the root or no path leads to it
abbrev pub TellsOf : BoardPlan → ℕ → ℕ → Option (ChipId × ℕ) → Type 0
TellsOf plan root chip (Some branch) = IsParent plan root chip branch.0.place branch.1
TellsOf plan root chip None = (chip ≡ root) ⊎ ((wires : ℕ) → Path plan root chip wires → ⊥)

-- the tree of a chip, which tells of each chip of the board
pub record IsTree (plan : BoardPlan) (root : ℕ) (branches : List (Option (ChipId × ℕ))) : Type 0 where
  pub count : length branches ≡ length plan.rooms
  pub each : (chip : ℕ) → chip < length plan.rooms → TellsOf plan root chip (slice_index_or branches chip None)
