-- The read ports of the memories so far were added.
use Rattle.std.proofs.Common.{take}
use Rattle.emu_machine.specs.Counts.{Adds, nets_of, memory_nets}
use Rattle.emu_machine.proofs.drivers.count_memories.Given as goal

abbrev pub invariant-memories : goal.invariant-memories
invariant-memories l = Adds (nets_of (memory_nets (take l.place l.memories))) l.initial.drivers l.drivers
