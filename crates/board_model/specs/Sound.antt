-- What holds of every board.
-- The rule is told in docs/FORMATS.md, "The board".
use Rattle.std.specs.Prelude.{◌≡◌, ℕ, ◌<◌, ◌≤◌, ◌&&◌, ◌==◌, Bool, true, false, not, nat_le, nat_lt, length, slice_get, Some}
use Rattle.std.specs.List.{list_all}
use Rattle.id_arena.specs.declared.wire.Wire.{Wire}
use Rattle.id_arena.specs.BoardPlan.{BoardPlan}

-- whether the latency of a wire is 1 to 8 slots
abbrev pub latency_is_within : Wire → Bool
latency_is_within wire = nat_le 1 wire.latency && nat_le wire.latency 8

-- the numbers are within their limits: 1 to 16 chips, at most 4,096 wires, each with a latency of 1 to
-- 8 slots, and 1 to 65,535 slots
pub record IsWithinLimits (plan : BoardPlan) : Type 0 where
  pub some_chip : 0 < length plan.rooms
  pub few_chips : length plan.rooms ≤ 16
  pub few_wires : length plan.wires ≤ 4096
  pub latencies : list_all latency_is_within plan.wires ≡ true
  pub some_slot : 0 < plan.slots
  pub few_slots : plan.slots ≤ 65535

-- a wire joins two different chips of so many
abbrev pub joins : ℕ → Wire → Bool
joins chips wire = nat_lt wire.from.place chips && nat_lt wire.to.place chips && not (wire.from.place == wire.to.place)

-- each of the first wires, so many, joins two chips
abbrev pub FirstWiresJoin : BoardPlan → ℕ → Type 0
FirstWiresJoin plan count =
    (number : ℕ) (wire : Wire) → number < count → slice_get plan.wires number ≡ Some wire → joins (length plan.rooms) wire ≡ true

-- this wire is the first that does not join two chips
pub record IsFirstBadWire (plan : BoardPlan) (number : ℕ) : Type 0 where
  pub wire : Wire
  pub here : slice_get plan.wires number ≡ Some wire
  pub bad : joins (length plan.rooms) wire ≡ false
  pub earlier : FirstWiresJoin plan number

-- a board: its numbers are within the limits, and each wire joins two chips
pub record IsSound (plan : BoardPlan) : Type 0 where
  pub limits : IsWithinLimits plan
  pub wires : FirstWiresJoin plan (length plan.wires)
