use Rattle.std.proofs.Common.{◌≡◌, ◌<◌, ℕ, Some, slice_get}
use Rattle.emu_machine.specs.declared.map.MemMap.{MemMap}
use Rattle.emu_machine.specs.declared.netlist.EmuMemory.{EmuMemory}
use Rattle.emu_machine.specs.Results.{MemoryEntryFits}
use Rattle.result_files.proofs.map_reader.reads_fit.Given as goal

-- the memories so far have entries that fit
abbrev pub invariant-memories : goal.invariant-memories
invariant-memories l =
    (m : ℕ) (memory : EmuMemory) (of : MemMap) → m < l.place → slice_get l.memories m ≡ Some memory → slice_get l.entries m ≡ Some of → MemoryEntryFits memory of
