-- The plain results: one chip of `buf` and `not` gates and of registers without D, slots of `input`
-- actions alone, and a map of nets of the design.
-- The rule is told in docs/FORMATS.md, "The netlist", "The schedule" and "The map".
use Rattle.std.specs.Prelude.{◌≡◌, ◌<◌, ℕ, Some, None, [], ◌∷◌, slice_get, Contains}
use Rattle.id_arena.specs.declared.keys.ChipNetId.{ChipNetId}
use Rattle.design_core.specs.Plain.{IsPlainOp}
use Rattle.emu_machine.specs.declared.netlist.Chip.{Chip}
use Rattle.emu_machine.specs.declared.netlist.EmuGate.{EmuGate}
use Rattle.emu_machine.specs.declared.netlist.EmuRegister.{EmuRegister}
use Rattle.emu_machine.specs.declared.schedule.Action.{Action}
use Rattle.emu_machine.specs.declared.schedule.Action.TheVariants.{Input}
use Rattle.emu_machine.specs.declared.schedule.Frame.{Frame}
use Rattle.emu_machine.specs.declared.schedule.Slot.{Slot}
use Rattle.emu_machine.specs.declared.schedule.Schedule.{Schedule}
use Rattle.emu_machine.specs.declared.map.Subject.{Subject}
use Rattle.emu_machine.specs.declared.map.Subject.TheVariants.{Net}
use Rattle.emu_machine.specs.declared.map.ChipMap.{ChipMap}
use Rattle.emu_machine.specs.declared.map.StateMap.{StateMap}
use Rattle.emu_machine.specs.Results.{Results}

-- a `buf` or `not` between nets of the chip
pub record IsPlainGate (chip : Chip) (gate : EmuGate) : Type 0 where
  pub op : IsPlainOp gate.op
  pub input : ChipNetId
  pub inputs : gate.inputs ≡ input ∷ []
  pub input_there : input.place < chip.nets
  pub output_there : gate.output.place < chip.nets

-- a register that holds what it is given, with a net of the chip as its Q
pub record IsPlainRegister (chip : Chip) (register : EmuRegister) : Type 0 where
  pub no_d : register.d ≡ None
  pub no_enable : register.enable ≡ None
  pub there : register.q.place < chip.nets

-- a chip of such gates and registers, without memories
pub record IsPlainChip (chip : Chip) : Type 0 where
  pub gates : (k : ℕ) (gate : EmuGate) → slice_get chip.gates k ≡ Some gate → IsPlainGate chip gate
  pub registers : (k : ℕ) (register : EmuRegister) → slice_get chip.registers k ≡ Some register → IsPlainRegister chip register
  pub memories : chip.memories ≡ []

abbrev pub IsInput : Action → Type 0
IsInput (Input chip register net) = Unit {0}
IsInput other = ⊥

-- every action is an `input`
abbrev pub IsPlainSchedule : Schedule → Type 0
IsPlainSchedule schedule =
    (frame : Frame) (slot : Slot) (action : Action)
    → Contains schedule.frames frame → Contains frame.slots slot → Contains slot.actions action → IsInput action

abbrev pub IsNetSubject : Subject → Type 0
IsNetSubject (Net n) = Unit {0}
IsNetSubject other = ⊥

-- every subject is a net of the design, and there are no memories
pub record IsPlainEntry (entry : ChipMap) : Type 0 where
  pub subjects : (what : Subject) → Contains entry.nets what → IsNetSubject what
  pub memories : entry.memories ≡ []

-- a map of one chip
pub record IsPlainMap (map : StateMap) : Type 0 where
  pub entry : ChipMap
  pub one : map.chips ≡ entry ∷ []
  pub plain : IsPlainEntry entry

-- one chip, a schedule and a map, all of them plain
pub record IsPlainResults (r : Results) : Type 0 where
  pub chip : Chip
  pub one : r.net ≡ chip ∷ []
  pub plain : IsPlainChip chip
  pub schedule : IsPlainSchedule r.schedule
  pub map : IsPlainMap r.map
