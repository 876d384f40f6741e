-- Passes over the gates of all chips, and what nets show by them.
-- The rules are told in docs/RULES.md, "Passes by change" and "Actions, slots and frames".
use Rattle.std.specs.Prelude.{◌≡◌, ◌<◌, ◌≤◌, ◌⊎◌, ℕ, ◌==◌, ◌&&◌, ◌||◌, Bool, false, Some, None, if◌then◌else◌, is_some, List, [], map, length, get_or, slice_get, find}
use Rattle.std.specs.List.{list_any}
use Rattle.id_arena.specs.declared.keys.ChipNetId.{ChipNetId}
use Rattle.id_arena.specs.declared.wire.Wire.{Wire}
use Rattle.chip_pass.specs.Chips.{ChipState, ChipHasSettled, ChipOthersWait, IsChipPass}
use Rattle.emu_machine.specs.declared.netlist.Chip.{Chip}
use Rattle.emu_machine.specs.declared.netlist.EmuGate.{EmuGate}
use Rattle.emu_machine.specs.declared.schedule.Action.{Action}
use Rattle.emu_machine.specs.Results.{Results}
use Rattle.emu_machine.specs.Netlist.{chip_at, gate_of, is_chip_net}
use Rattle.emu_machine.specs.State.{State, action_value, first_given}
use Rattle.cycle_sim.specs.Values.{gate_gives, cell}

-- by chip and net what the net shows
abbrev pub rows_of : List (ChipState Bool) → List (List Bool)
rows_of passes = map (λ s. s.pass.values) passes

-- a pass over the gates of a chip, in which every gate that does not hold waits
pub record IsPassOf (chip : Chip) (s : ChipState Bool) : Type 0 where
  pub is : s.chip ≡ chip
  pub stands : IsChipPass s
  pub others : ChipOthersWait gate_gives false s

-- one for each chip
pub record ArePasses (r : Results) (passes : List (ChipState Bool)) : Type 0 where
  pub count : length passes ≡ length r.net
  pub each : (c : ℕ) (s : ChipState Bool) → slice_get passes c ≡ Some s → IsPassOf (chip_at r.net c) s

-- nets that no gate drives show what registers and read ports hold there
abbrev pub ShowHeld : Results → List (List Bool) → List (List Bool) → Type 0
ShowHeld r held shown =
    (c n : ℕ) → n < (chip_at r.net c).nets → gate_of (chip_at r.net c) n ≡ None → cell shown c n ≡ cell held c n

-- a net of a chip that no gate drives
pub record IsFree (r : Results) (c n : ℕ) : Type 0 where
  pub low : n < (chip_at r.net c).nets
  pub free : gate_of (chip_at r.net c) n ≡ None

-- Each net shows what is held there, or it shows what it showed and the action gives it nothing, whatever the state.
abbrev pub CatchesUp : Results → List Wire → List (List Bool) → Action → List (List Bool) → List (List Bool) → Type 0
CatchesUp r wires held action before after =
    (c n : ℕ)
    → (cell after c n ≡ cell held c n)
    ⊎ ((cell after c n ≡ cell before c n) × ((x : State) → action_value r.net wires x action c n ≡ None))

-- the same of some actions
abbrev pub CatchUp : Results → List Wire → List (List Bool) → List Action → List (List Bool) → List (List Bool) → Type 0
CatchUp r wires held actions before after =
    (c n : ℕ)
    → (cell after c n ≡ cell held c n)
    ⊎ ((cell after c n ≡ cell before c n) × ((x : State) → first_given (λ a. action_value r.net wires x a c n) actions ≡ None))

-- ## Inside

-- a pass over a chip, in which the nets that no gate drives show what is held there
pub record IsLevelPass (chip : Chip) (held : List Bool) (s : ChipState Bool) : Type 0 where
  pub is_pass : IsPassOf chip s
  pub level : (n : ℕ) → n < chip.nets → gate_of chip n ≡ None → get_or s.pass.values n false ≡ get_or held n false

-- the same of the nets below a place
pub record IsLevelBelow (chip : Chip) (held : List Bool) (count : ℕ) (s : ChipState Bool) : Type 0 where
  pub is_pass : IsPassOf chip s
  pub level : (n : ℕ) → n < count → n < chip.nets → gate_of chip n ≡ None → get_or s.pass.values n false ≡ get_or held n false

-- the same for the first chips, with none for the others
pub record AreFirstPasses (r : Results) (held : List (List Bool)) (count : ℕ) (passes : List (ChipState Bool)) : Type 0 where
  pub count_is : length passes ≡ count
  pub each : (c : ℕ) (s : ChipState Bool) → slice_get passes c ≡ Some s → IsLevelPass (chip_at r.net c) (get_or held c []) s

-- whether one of some gates drives a net
abbrev pub is_driven : List EmuGate → ℕ → Bool
is_driven gates n = is_some (find (λ gate. is_chip_net n gate.output) gates)

-- for each net of a chip whether a gate drives it
pub record AreGated (chip : Chip) (gated : List Bool) : Type 0 where
  pub count : length gated ≡ chip.nets
  pub tells : (n : ℕ) → n < chip.nets → get_or gated n false ≡ is_driven chip.gates n

-- the same of some gates, besides what was told
pub record GatedSoFar (gates : List EmuGate) (before after : List Bool) : Type 0 where
  pub count : length after ≡ length before
  pub tells : (n : ℕ) → n < length before → get_or after n false ≡ (get_or before n false || is_driven gates n)

-- the gates of a chip that waited have had their turn
pub record HasCaughtUp (old new : ChipState Bool) : Type 0 where
  pub settled : ChipHasSettled gate_gives false old new
  pub stands : IsChipPass new
  pub others : ChipOthersWait gate_gives false new

-- the same of each chip
pub record AllCaughtUp (old new : List (ChipState Bool)) : Type 0 where
  pub count : length new ≡ length old
  pub each : (c : ℕ) (s t : ChipState Bool) → slice_get old c ≡ Some s → slice_get new c ≡ Some t → HasCaughtUp s t

-- the same of the chips below a place, where the others are as they were
pub record FirstCaughtUp (count : ℕ) (old new : List (ChipState Bool)) : Type 0 where
  pub size : length new ≡ length old
  pub done : (c : ℕ) (s t : ChipState Bool) → c < count → slice_get old c ≡ Some s → slice_get new c ≡ Some t → HasCaughtUp s t
  pub rest : (c : ℕ) → count ≤ c → slice_get new c ≡ slice_get old c

-- nets of a chip show what is held there, and all others what they showed
abbrev pub BitsCatchUp : ℕ → List ChipNetId → List (List Bool) → List (List Bool) → List (List Bool) → Type 0
BitsCatchUp chip bits held before after =
    (c n : ℕ) → cell after c n ≡ (if (chip == c) && list_any (is_chip_net n) bits then cell held c n else cell before c n)
