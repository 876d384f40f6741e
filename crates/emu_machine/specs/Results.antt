-- The results of a compiler as contracts see them, and what holds of all that there are.
-- The rules are told in docs/RULES.md, "The state map", and in docs/FORMATS.md, "The map".
use Rattle.std.specs.Prelude.{◌≡◌, ◌<◌, ◌≤◌, ℕ, Some, List, length, slice_get}
use Rattle.emu_machine.specs.declared.netlist.Chip.{Chip}
use Rattle.emu_machine.specs.declared.netlist.EmuMemory.{EmuMemory}
use Rattle.emu_machine.specs.declared.schedule.Frame.{Frame}
use Rattle.emu_machine.specs.declared.schedule.Schedule.{Schedule}
use Rattle.emu_machine.specs.declared.schedule.Slot.{Slot}
use Rattle.emu_machine.specs.declared.map.ChipMap.{ChipMap}
use Rattle.emu_machine.specs.declared.map.MemMap.{MemMap}
use Rattle.emu_machine.specs.declared.map.Spot.{Spot}
use Rattle.emu_machine.specs.declared.map.StateMap.{StateMap}
use Rattle.emu_machine.specs.Netlist.{chip_at}

-- a netlist for each chip, a schedule, and a map
pub record Results : Type 0 where
  pub net : List Chip
  pub schedule : Schedule
  pub map : StateMap

-- a memory's entry has a Boolean for each read port
abbrev pub MemoryEntryFits : EmuMemory → MemMap → Type 0
MemoryEntryFits memory entry = length entry.kept ≡ length memory.reads

-- a chip's entry has a subject for each net, a Boolean for each register, and an entry for each memory
pub record ChipEntryFits (chip : Chip) (entry : ChipMap) : Type 0 where
  pub nets : length entry.nets ≡ chip.nets
  pub registers : length entry.kept ≡ length chip.registers
  pub memories : length entry.memories ≡ length chip.memories
  pub reads : (m : ℕ) (memory : EmuMemory) (of : MemMap)
      → slice_get chip.memories m ≡ Some memory → slice_get entry.memories m ≡ Some of → MemoryEntryFits memory of

-- the map has an entry for each chip, and its outputs are nets that are there
pub record MapFits (r : Results) : Type 0 where
  pub count : length r.map.chips ≡ length r.net
  pub chips : (c : ℕ) (chip : Chip) (entry : ChipMap)
      → slice_get r.net c ≡ Some chip → slice_get r.map.chips c ≡ Some entry → ChipEntryFits chip entry
  pub outputs : (k : ℕ) (spot : Spot) → slice_get r.map.outputs k ≡ Some spot → spot.net.place < (chip_at r.net spot.chip.place).nets

-- actions of a slot have numbers of 32 bits
abbrev pub SlotsFit : Schedule → Type 0
SlotsFit schedule =
    (k t : ℕ) (frame : Frame) (slot : Slot)
    → slice_get schedule.frames k ≡ Some frame → slice_get frame.slots t ≡ Some slot → length slot.actions ≤ 4294967295

-- what holds of all results besides their netlist: the map has the netlist's counts, and its outputs are there
pub record ResultsStand (r : Results) : Type 0 where
  pub mapped : MapFits r
  pub slots : SlotsFit r.schedule
