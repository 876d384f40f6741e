-- Which actions end in which slot of a frame, as tables.
-- The rule is told in docs/RULES.md, "Actions, slots and frames".
use Rattle.std.specs.Prelude.{◌≡◌, ◌<◌, ℕ, List, [], ◌++◌, map, length, get_or}
use Rattle.std.specs.List.{filter}
use Rattle.id_arena.specs.declared.wire.Wire.{Wire}
use Rattle.emu_machine.specs.declared.schedule.Action.{Action}
use Rattle.emu_machine.specs.declared.schedule.Slot.{Slot}
use Rattle.emu_machine.specs.Results.{Results}
use Rattle.emu_machine.specs.State.{frame_slots, Timed, timed, is_last, ending}

-- for each slot of a frame the actions that end in it
pub record AreEndings (wires : List Wire) (slots : List Slot) (endings : List (List Action)) : Type 0 where
  pub count : length endings ≡ length slots
  pub each : (t : ℕ) → t < length slots → get_or endings t [] ≡ ending wires slots t

-- the same for each frame
pub record AllEndings (r : Results) (wires : List Wire) (endings : List (List (List Action))) : Type 0 where
  pub count : length endings ≡ length r.schedule.frames
  pub each : (k : ℕ) → k < length r.schedule.frames → AreEndings wires (frame_slots r k) (get_or endings k [])

-- ## Inside

-- the same for the first frames, with none for the others
pub record FirstEndings (r : Results) (wires : List Wire) (count : ℕ) (endings : List (List (List Action))) : Type 0 where
  pub count_is : length endings ≡ count
  pub each : (k : ℕ) → k < count → k < length r.schedule.frames → AreEndings wires (frame_slots r k) (get_or endings k [])

-- the actions among some that end in slot `t`
abbrev pub ending_among : List Wire → ℕ → List Timed → List Action
ending_among wires t actions = map (λ a. a.action) (filter (is_last wires t) actions)

-- for each slot of a frame of so many those of some actions that end in it
pub record HaveEndings (wires : List Wire) (slots : ℕ) (actions : List Timed) (endings : List (List Action)) : Type 0 where
  pub count : length endings ≡ slots
  pub each : (t : ℕ) → t < slots → get_or endings t [] ≡ ending_among wires t actions

-- the same with some more actions, all of slot `t`
pub record HaveMore (wires : List Wire) (t : ℕ) (actions : List Action) (before after : List (List Action)) : Type 0 where
  pub count : length after ≡ length before
  pub each : (u : ℕ) → u < length before → get_or after u [] ≡ get_or before u [] ++ filter (λ a. is_last wires u (timed t a)) actions
