-- The machine's state as tables of values.
-- The rules are told in docs/RULES.md, "Actions, slots and frames" and "Loaded".
use Rattle.std.specs.Prelude.{◌≡◌, ◌^◌, ℕ, Bool, false, Some, List, [], length, get_or, slice_get, unwrap_or}
use Rattle.id_arena.specs.declared.wire.Wire.{Wire}
use Rattle.design_core.specs.declared.values.PortBit.{PortBit}
use Rattle.design_core.specs.Event.{given}
use Rattle.emu_machine.specs.declared.netlist.Chip.{Chip}
use Rattle.emu_machine.specs.declared.netlist.EmuMemory.{EmuMemory}
use Rattle.emu_machine.specs.declared.schedule.Action.{Action}
use Rattle.emu_machine.specs.Results.{Results}
use Rattle.chip_pass.specs.Chips.{ChipState}
use Rattle.slot_endings.specs.Endings.{AllEndings}
use Rattle.emu_machine.specs.State.{State}
use Rattle.cycle_sim.specs.Standing.{IsRunnable}
use Rattle.cycle_sim.specs.Values.{AreShown, cell}
use Rattle.cycle_sim.specs.Passes.{ArePasses, ShowHeld, rows_of}

-- by chip and net what a register or read port holds there, by chip, memory and address each word, by net of the
-- design the outside value of an input, and by wire the value that it carries
pub record Tables : Type 0 where
  pub held : List (List Bool)
  pub words : List (List (List ℕ))
  pub outside : List Bool
  pub carried : List Bool

abbrev pub tables : List (List Bool) → List (List (List ℕ)) → List Bool → List Bool → Tables
tables held words outside carried = record { held = held; words = words; outside = outside; carried = carried }

-- a word of a table of words; what is not there is 0
abbrev pub word_in : List (List (List ℕ)) → ℕ → ℕ → ℕ → ℕ
word_in words c m a = get_or (get_or (get_or words c []) m []) a 0

-- the state that the tables stand for; a wire without a value carries 0
abbrev pub state_of : Tables → State
state_of t =
    record {
      held = cell t.held;
      word = word_in t.words;
      outside = λ n. get_or t.outside n false;
      carried = λ w. get_or t.carried w false;
    }

-- a machine: the results that it runs, the wires that it runs them over, and its state
pub record Running : Type 0 where
  pub results : Results
  pub wires : List Wire
  pub tables : Tables

abbrev pub state : Running → State
state m = state_of m.tables

-- a value for each net of each chip
pub record HaveSizes (r : Results) (held : List (List Bool)) : Type 0 where
  pub count : length held ≡ length r.net
  pub sizes : (c : ℕ) (chip : Chip) → slice_get r.net c ≡ Some chip → length (get_or held c []) ≡ chip.nets

-- a word for each address of each memory of a chip
pub record HasWords (chip : Chip) (words : List (List ℕ)) : Type 0 where
  pub count : length words ≡ length chip.memories
  pub sizes : (m : ℕ) (memory : EmuMemory) → slice_get chip.memories m ≡ Some memory → length (get_or words m []) ≡ 2 ^ memory.address_bits

-- the same for each chip
pub record HaveWords (r : Results) (words : List (List (List ℕ))) : Type 0 where
  pub count : length words ≡ length r.net
  pub each : (c : ℕ) (chip : Chip) → slice_get r.net c ≡ Some chip → HasWords chip (get_or words c [])

-- what the nets of all chips show, for what their registers hold
pub record AllShown (r : Results) (held shown : List (List Bool)) : Type 0 where
  pub count : length shown ≡ length r.net
  pub each : (c : ℕ) (chip : Chip) → slice_get r.net c ≡ Some chip → AreShown chip (get_or held c []) (get_or shown c [])

-- the results can be run, and the tables of what nets show have all their nets
pub record IsReady (r : Results) (wires : List Wire) (nets : ℕ) (shown : List (List Bool)) : Type 0 where
  pub runs : IsRunnable r wires nets
  pub sizes : HaveSizes r shown

-- the results can be run, and what a machine has for each chip and wire is there
pub record IsEquipped (r : Results) (wires : List Wire) (t : Tables) : Type 0 where
  pub runs : IsRunnable r wires (length t.outside)
  pub held : HaveSizes r t.held
  pub words : HaveWords r t.words
  pub carried : length t.carried ≡ length wires

-- A machine between two slots of a frame: nets that no gate drives show what is held there, and every gate that does
-- not hold waits.
pub record IsUnderWay (r : Results) (wires : List Wire) (t : Tables) (passes : List (ChipState Bool)) : Type 0 where
  pub equipped : IsEquipped r wires t
  pub passes_are : ArePasses r passes
  pub level : ShowHeld r t.held (rows_of passes)

-- the same, where all nets show what comes to them
pub record IsFresh (r : Results) (wires : List Wire) (t : Tables) (passes : List (ChipState Bool)) : Type 0 where
  pub under : IsUnderWay r wires t passes
  pub shows : AllShown r t.held (rows_of passes)

-- the same, with the actions that end in each slot of each frame
pub record IsMachine (r : Results) (wires : List Wire) (t : Tables) (passes : List (ChipState Bool)) (endings : List (List (List Action))) : Type 0 where
  pub settled : IsFresh r wires t passes
  pub ends : AllEndings r wires endings

-- a table in which the values that are given stand, and otherwise those from before
abbrev pub HasPut : List PortBit → List Bool → List Bool → Type 0
HasPut values before after = (n : ℕ) → get_or after n false ≡ unwrap_or (given values n) (get_or before n false)
