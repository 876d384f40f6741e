-- The first of them have the values of what they stand for.
use Rattle.std.proofs.Common.{take}
use Rattle.std.specs.List.{list_any}
use Rattle.emu_machine.specs.Netlist.{is_chip_net}
use Rattle.cycle_sim.specs.Loading.{Gains}
use Rattle.cycle_sim.proofs.loaded.hold_nets.Given as goal

abbrev pub invariant-bits : goal.invariant-bits
invariant-bits l = Gains (λ n. list_any (is_chip_net n) (take l.k (l.bits))) l.entry l.values l.initial.held l.held
