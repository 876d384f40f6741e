-- Inside: what is given at the end of a slot, where all is read from the tables at its start.
use Rattle.std.specs.Prelude.{◌≡◌, ◌<◌, ℕ, ◌+◌, ◌==◌, ◌&&◌, ◌||◌, not, Bool, true, None, Some, if◌then◌else◌, Option, List, [], ◌∷◌, length, get_or, unwrap_or, option_map, position, All}
use Rattle.std.specs.Option.{option_or}
use Rattle.id_arena.specs.declared.keys.ChipNetId.{ChipNetId}
use Rattle.id_arena.specs.declared.wire.Wire.{Wire}
use Rattle.design_core.specs.declared.node.NodeId.{NodeId}
use Rattle.design_core.specs.declared.parts.Parts.{Parts}
use Rattle.chip_pass.specs.Chips.{ChipState}
use Rattle.emu_machine.specs.declared.netlist.EmuRead.{EmuRead}
use Rattle.emu_machine.specs.declared.schedule.Action.{Action}
use Rattle.emu_machine.specs.Results.{Results}
use Rattle.emu_machine.specs.Netlist.{chip_at, is_chip_net, gate_of}
use Rattle.emu_machine.specs.State.{read_port, first_given}
use Rattle.emu_machine.specs.Mapped.{subject}
use Rattle.emu_machine.specs.Marks.{Mark, no_mark, widened, MarkState, action_mark, action_carried_mark, port_written, write_counts, net_marks, read_mark, clock_of_read, writes_of}
use Rattle.frame_marks.specs.declared.tables.MemoryMarks.{MemoryMarks}
use Rattle.frame_marks.specs.declared.tables.Given.{Given}
use Rattle.frame_marks.specs.Frames.{FrameState, mark_in, memory_in}
use Rattle.frame_marks.specs.Tables.{HoldAll, IsStart}

-- what a list gives to a place of a chip: the first that stands there for it
abbrev pub given_in : {T : Type 0} → List (Given T) → ℕ → ℕ → Option T
given_in [] c n = None
given_in (g ∷ gs) c n = if (g.chip.place == c) && (g.place == n) then Some g.what else given_in gs c n

-- a list gives, besides what it gave, what else is given
abbrev pub HasMore : {T : Type 0} → (ℕ → ℕ → Option T) → List (Given T) → List (Given T) → Type 0
HasMore gives before after = (c n : ℕ) → given_in after c n ≡ option_or (given_in before c n) (gives c n)

-- a list gives just this
abbrev pub Gives : {T : Type 0} → (ℕ → ℕ → Option T) → List (Given T) → Type 0
Gives gives given = (c n : ℕ) → given_in given c n ≡ gives c n

-- a net of a chip that no gate drives
pub record IsFree (r : Results) (c n : ℕ) : Type 0 where
  pub low : n < (chip_at r.net c).nets
  pub free : gate_of (chip_at r.net c) n ≡ None

-- all that is given is for such nets
abbrev pub AreFree : Results → List (Given Mark) → Type 0
AreFree r given = All (λ g. IsFree r g.chip.place g.place) given

-- all that is given is for memories of chips
abbrev pub AreMemories : Results → List (Given MemoryMarks) → Type 0
AreMemories r given = All (λ g. g.place < length (chip_at r.net g.chip.place).memories) given

-- ## Nets

-- a list gives also what an action gives to nets
abbrev pub GivesOne : FrameState → Action → List (Given Mark) → List (Given Mark) → Type 0
GivesOne f action before after =
    (inside : NodeId → Bool) (s : MarkState) → IsStart inside s f
    → HasMore (action_mark f.design f.results f.wires inside s action) before after

-- a list gives just what some actions give to nets, of which the first to give anything counts
abbrev pub GivesAll : FrameState → List Action → List (Given Mark) → Type 0
GivesAll f actions given =
    (inside : NodeId → Bool) (s : MarkState) → IsStart inside s f
    → Gives (λ c n. first_given (λ a. action_mark f.design f.results f.wires inside s a c n) actions) given

-- nets have taken the marks that they are given, widened
abbrev pub HavePut : Results → (NodeId → Bool) → List (Given Mark) → List (ChipState Mark) → List (ChipState Mark) → Type 0
HavePut r inside given before after =
    (c n : ℕ) → gate_of (chip_at r.net c) n ≡ None
    → mark_in after c n ≡ unwrap_or (option_map (widened inside (subject r c n)) (given_in given c n)) (mark_in before c n)

-- what the bits of a read port are given, all the same marks
abbrev pub bits_take : ℕ → List ChipNetId → Mark → ℕ → ℕ → Option Mark
bits_take chip bits mark c n = if chip == c then option_map (λ b. mark) (position (is_chip_net n) bits) else None

-- the marks that a read port gives to its bits
abbrev pub IsReadMark : FrameState → ℕ → ℕ → ℕ → Mark → Type 0
IsReadMark f c m k mark =
    (inside : NodeId → Bool) (s : MarkState) (port : EmuRead) → IsStart inside s f
    → read_port f.results.net c m k ≡ Some port
    → mark
    ≡ read_mark s (clock_of_read f.design f.results c m k) (length (writes_of f.design f.results c m)) c m
    (net_marks f.design f.results inside s c port.address)

-- ## Memories

-- how far the writes of a memory stand after one of its ports was used
abbrev pub after_write : FrameState → (NodeId → Bool) → MarkState → ℕ → ℕ → ℕ → MemoryMarks
after_write f inside s c m k =
    record {
      standing = if write_counts f.design f.results inside s c m k then s.standing c m + 1 else s.standing c m;
      broken = s.broken c m || not (write_counts f.design f.results inside s c m k);
      wrote = true;
    }

-- it is told whether the use of a write port counts
abbrev pub IsCounted : FrameState → ℕ → ℕ → ℕ → Bool → Type 0
IsCounted f c m k counts =
    (inside : NodeId → Bool) (s : MarkState) → IsStart inside s f → counts ≡ write_counts f.design f.results inside s c m k

-- and how far the writes of its memory stand afterwards
abbrev pub IsAfterWrite : FrameState → ℕ → ℕ → ℕ → MemoryMarks → Type 0
IsAfterWrite f c m k marks =
    (inside : NodeId → Bool) (s : MarkState) → IsStart inside s f → marks ≡ after_write f inside s c m k

-- a list gives also what an action makes of memories
abbrev pub WritesOne : FrameState → Action → List (Given MemoryMarks) → List (Given MemoryMarks) → Type 0
WritesOne f action before after =
    (inside : NodeId → Bool) (s : MarkState) → IsStart inside s f
    → HasMore (λ c m. option_map (after_write f inside s c m) (port_written c m action)) before after

-- a list gives just what some actions make of memories, of which the first counts
abbrev pub WritesAll : FrameState → List Action → List (Given MemoryMarks) → Type 0
WritesAll f actions given =
    (inside : NodeId → Bool) (s : MarkState) → IsStart inside s f
    → Gives (λ c m. option_map (after_write f inside s c m) (first_given (port_written c m) actions)) given

-- memories have taken what they are given
abbrev pub HaveWritten : List (Given MemoryMarks) → List (List MemoryMarks) → List (List MemoryMarks) → Type 0
HaveWritten given before after =
    (c m : ℕ) → memory_in after c m ≡ unwrap_or (given_in given c m) (memory_in before c m)

-- ## Wires

-- each wire carries what it is given, if it is given anything, and otherwise what it carried
abbrev pub IsCarrying : (ℕ → Option Mark) → List Mark → List Mark → Type 0
IsCarrying given before after = (w : ℕ) → get_or after w no_mark ≡ unwrap_or (given w) (get_or before w no_mark)

-- wires are given what an action sends, where all nets have the marks of a state
abbrev pub SendsOne : Parts → Results → List Wire → List (ChipState Mark) → Action → List Mark → List Mark → Type 0
SendsOne p r wires chips action before after =
    (inside : NodeId → Bool) (s : MarkState) → HoldAll p r inside s chips
    → IsCarrying (action_carried_mark p r wires inside s action) before after

-- the same for some actions, of which the first counts
abbrev pub SendsAll : Parts → Results → List Wire → List (ChipState Mark) → List Action → List Mark → List Mark → Type 0
SendsAll p r wires chips actions before after =
    (inside : NodeId → Bool) (s : MarkState) → HoldAll p r inside s chips
    → IsCarrying (λ w. first_given (λ a. action_carried_mark p r wires inside s a w) actions) before after
