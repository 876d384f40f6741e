-- Inside the law of acceptance: what one slot makes of true marks. Where the actions of a frame meet the
-- rules, marks that are true at the start of a slot give marks that are true at its end. The rules are told in
-- docs/RULES.md, "Marks" and "Acceptance".
use Rattle.std.specs.Prelude.{◌≡◌, ℕ, suc, Bool, true, false, Some, List, take, slice_get, Contains}
use Rattle.id_arena.specs.declared.keys.ChipNetId.{ChipNetId}
use Rattle.id_arena.specs.declared.keys.RegId.{RegId}
use Rattle.id_arena.specs.declared.keys.WireId.{WireId}
use Rattle.id_arena.specs.declared.wire.Wire.{Wire}
use Rattle.design_core.specs.declared.element.Memory.{Memory}
use Rattle.design_core.specs.declared.element.Driver.TheVariants as driven
use Rattle.design_core.specs.declared.node.NodeId.{NodeId}
use Rattle.design_core.specs.declared.values.PortBit.{PortBit}
use Rattle.design_core.specs.Design.{driver}
use Rattle.design_core.specs.Valuation.{Valuation, IsAddress}
use Rattle.design_core.specs.Event.{written}
use Rattle.emu_machine.specs.declared.netlist.EmuMemory.{EmuMemory}
use Rattle.emu_machine.specs.declared.netlist.EmuRegister.{EmuRegister}
use Rattle.emu_machine.specs.declared.place.Thing.{Thing}
use Rattle.emu_machine.specs.declared.schedule.Action.{Action}
use Rattle.emu_machine.specs.declared.schedule.Action.TheVariants.{Send}
use Rattle.emu_machine.specs.Netlist.{chip_at}
use Rattle.emu_machine.specs.State.{State, slot_step, frame_slots, Timed, timed_actions}
use Rattle.emu_machine.specs.Mapped.{subject, memory_of}
use Rattle.emu_machine.specs.Marks.{MarkState, marks_step, is_on_its_way}
use Rattle.emu_machine.specs.Origins.{register_fits}
use Rattle.emu_machine.specs.Acceptance.{Case, register_at, slot_actions, case_action_fits, UsesAgain, keeps_subject, mapped_memory_fits}
use Rattle.emu_machine.specs.Law.{IsCase}
use Rattle.marks_law.specs.Facts.{EventFacts}
use Rattle.marks_law.specs.Gates.{GatesFit}
use Rattle.marks_law.specs.Truth.{IsTrueOf, SourcesTrue, SubjectsStand}

-- what is on its way at the start of a slot of a frame bears true marks: those of its wire are true of what
-- the wire carries, of the subject of the net that was sent
abbrev pub FlightsTrue : Case → ℕ → ℕ → Valuation → Valuation → MarkState → State → Type 0
FlightsTrue c frame slot v w s x =
    (a : Timed) (wire : WireId) (net : ChipNetId) (register : RegId) (ends : Wire)
    → Contains (timed_actions (frame_slots c.results frame)) a
    → a.action ≡ Send wire net register
    → slice_get c.board.wires wire.place ≡ Some ends
    → is_on_its_way c.board.wires slot a ≡ true
    → IsTrueOf c.design v w (subject c.results ends.from.place net.place) (s.carried wire.place) (x.carried wire.place)

-- The marks are true of a state at the start of a slot of a frame, in an event from `v` to `w`: what
-- registers and read ports hold bears true marks; a memory that is not broken holds the words after as many
-- write ports as its standing tells, and one that no write has touched the words from before; each input's
-- outside value is that after the event; and what is on its way bears true marks.
pub record StateTrue (c : Case) (frame slot : ℕ) (v w : Valuation) (s : MarkState) (x : State) : Type 0 where
  pub sources : SourcesTrue c.design c.results v w s x
  pub words : (chip mem of address : ℕ) (memory : Memory) → memory_of c.results chip mem ≡ Some of
      → slice_get c.design.memories of ≡ Some memory → IsAddress c.design of address → s.broken chip mem ≡ false
      → x.word chip mem address ≡ written v w (take (s.standing chip mem) memory.writes) address (v.word of address)
  pub untouched : (chip mem of address : ℕ) → memory_of c.results chip mem ≡ Some of → IsAddress c.design of address
      → s.wrote chip mem ≡ false → x.word chip mem address ≡ v.word of address
  pub outside : (n : ℕ) → driver c.design n ≡ driven.Input → x.outside n ≡ w.net n
  pub flights : FlightsTrue c frame slot v w s x

-- each gate, register and memory of the chips is what its subjects say, and subjects name nets that the design has
pub record PartsFit (c : Case) : Type 0 where
  pub gates : GatesFit c.design c.results
  pub registers : (chip place : ℕ) (register : EmuRegister) → register_at c chip place ≡ Some register
      → register_fits c.design c.results chip register ≡ true
  pub memories : (chip mem : ℕ) (memory : EmuMemory) → slice_get (chip_at c.results.net chip).memories mem ≡ Some memory
      → mapped_memory_fits c chip mem memory ≡ true
  pub subjects : SubjectsStand c.design c.results

-- the actions of a frame name what is there, use nothing twice in a slot, and keep subjects
pub record FrameFits (c : Case) (frame : ℕ) : Type 0 where
  pub there : (slot place : ℕ) (a : Action) → slice_get (slot_actions c frame slot) place ≡ Some a
      → case_action_fits c frame slot a ≡ true
  pub once : (slot place : ℕ) (what : Thing) → UsesAgain c.board.wires (frame_slots c.results frame) slot place what → ⊥
  pub keeps : (slot place : ℕ) (a : Action) → slice_get (slot_actions c frame slot) place ≡ Some a → keeps_subject c a ≡ true

-- a slot of a frame keeps true marks true, in whatever event the frame runs
abbrev pub KeepsMarks : Case → ℕ → ℕ → Type 0
KeepsMarks c frame slot =
    (inside : NodeId → Bool) (v w : Valuation) (event : List PortBit) (s : MarkState) (x : State)
    → EventFacts c.design inside v event w
    → StateTrue c frame slot v w s x
    → StateTrue c frame (suc slot) v w
    (marks_step c.design c.results c.board.wires inside (frame_slots c.results frame) slot s)
    (slot_step c.results.net c.board.wires (frame_slots c.results frame) slot x)

-- every slot of a frame whose actions fit keeps true marks true
abbrev pub SlotKeepsMarks : Type 0
SlotKeepsMarks = (c : Case) (frame slot : ℕ) → IsCase c → PartsFit c → FrameFits c frame → KeepsMarks c frame slot
