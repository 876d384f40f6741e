use Rattle.std.proofs.Common.{◌≡◌, ◌<◌, ◌+◌, ◌^◌, length, ◌++◌}
use Rattle.result_files.specs.PlainNetlist.{register_words}
use Rattle.result_files.specs.Taken.{Each, IsRegisterBelow, lines}
use Rattle.result_files.proofs.plain_netlist.take_registers.Given as goal

-- these registers were passed over
abbrev pub invariant-registers : goal.invariant-registers
invariant-registers l =
    Each (IsRegisterBelow l.nets) l.registers × (l.initial.rest ≡ lines register_words l.registers ++ l.rest) × (length l.registers + length l.rest < 2 ^ 32)

abbrev pub decreases-registers : goal.decreases-registers
decreases-registers l = length l.rest
