use Rattle.std.proofs.Common.{take}
use Rattle.result_files.specs.Drivers.{AddsDrivers, register_output}
use Rattle.result_files.proofs.drivers.count_registers.Given as goal

-- the registers so far were added
abbrev pub invariant-registers : goal.invariant-registers
invariant-registers l = AddsDrivers register_output (take l.place l.registers) l.initial.drivers l.drivers
