-- The marks of a frame in tables.
-- The rule is told in docs/RULES.md, "Marks".
use Rattle.std.specs.Prelude.{◌≡◌, ◌<◌, ℕ, Bool, true, false, None, List, [], length, get_or, slice_get, Contains}
use Rattle.std.specs.Option.{option_map_or}
use Rattle.id_arena.specs.declared.wire.Wire.{Wire}
use Rattle.design_core.specs.declared.node.NodeId.{NodeId}
use Rattle.design_core.specs.declared.parts.Parts.{Parts}
use Rattle.gate_pass.specs.Gates.{value_on}
use Rattle.chip_pass.specs.Chips.{ChipState}
use Rattle.emu_machine.specs.declared.schedule.Action.{Action}
use Rattle.emu_machine.specs.declared.schedule.Slot.{Slot}
use Rattle.emu_machine.specs.Results.{Results}
use Rattle.emu_machine.specs.Netlist.{chip_at, gate_of}
use Rattle.emu_machine.specs.State.{actions_of}
use Rattle.emu_machine.specs.Acceptance.{action_fits}
use Rattle.emu_machine.specs.Marks.{Mark, no_mark, MarkState, net_mark}
use Rattle.frame_marks.specs.declared.tables.MemoryMarks.{MemoryMarks}

-- What contracts see: the design, the results and the wires; for each chip a pass over its gates, with the marks of
-- its nets; by chip and memory how far its writes stand; by wire the marks of the value that it carries.
pub record FrameState : Type 0 where
  pub design : Parts
  pub results : Results
  pub wires : List Wire
  pub chips : List (ChipState Mark)
  pub memories : List (List MemoryMarks)
  pub carried : List Mark

-- these parts, put together
abbrev pub frame_state : Parts → Results → List Wire → List (ChipState Mark) → List (List MemoryMarks) → List Mark → FrameState
frame_state p r wires chips memories carried =
    record { design = p; results = r; wires = wires; chips = chips; memories = memories; carried = carried }

-- the marks of the nets of a chip; a chip that is not there has no nets
abbrev pub row_in : List (ChipState Mark) → ℕ → List Mark
row_in chips c = option_map_or (λ s. s.pass.values) (slice_get chips c) []

-- the marks of a net; one that is not there has none
abbrev pub mark_in : List (ChipState Mark) → ℕ → ℕ → Mark
mark_in chips c n = value_on no_mark (row_in chips c) n

-- a memory of which nothing is written
abbrev pub unwritten : MemoryMarks
unwritten = record { standing = 0; broken = false; wrote = false }

-- how far the writes of a memory stand
abbrev pub memory_in : List (List MemoryMarks) → ℕ → ℕ → MemoryMarks
memory_in memories c m = get_or (get_or memories c []) m unwritten

-- each action of some slots fits there, as rule A5 asks, whatever is an input of the group
abbrev pub FrameStands : Results → List Wire → List Slot → Type 0
FrameStands r wires slots =
    (t : ℕ) (a : Action) → Contains (actions_of slots t) a → action_fits r.net wires (λ n. true) (length slots) t a ≡ true

-- The tables show the marks of a state, where they are to be read at the end of a frame: on each net that no gate
-- drives, and for each memory.
pub record Shows (inside : NodeId → Bool) (s : MarkState) (f : FrameState) : Type 0 where
  pub nets : (c n : ℕ) → n < (chip_at f.results.net c).nets → gate_of (chip_at f.results.net c) n ≡ None
      → mark_in f.chips c n ≡ net_mark f.design f.results inside s c n
  pub standing : (c m : ℕ) → m < length (chip_at f.results.net c).memories → (memory_in f.memories c m).standing ≡ s.standing c m
  pub broken : (c m : ℕ) → m < length (chip_at f.results.net c).memories → (memory_in f.memories c m).broken ≡ s.broken c m
  pub wrote : (c m : ℕ) → m < length (chip_at f.results.net c).memories → (memory_in f.memories c m).wrote ≡ s.wrote c m
