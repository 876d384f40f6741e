-- The registers so far were added.
use Rattle.std.proofs.Common.{take}
use Rattle.emu_machine.specs.Counts.{Adds, registers_of}
use Rattle.emu_machine.proofs.drivers.count_registers.Given as goal

abbrev pub invariant-registers : goal.invariant-registers
invariant-registers l = Adds (registers_of (take l.place l.registers)) l.initial.drivers l.drivers
