-- The ports so far were added.
use Rattle.std.proofs.Common.{take}
use Rattle.emu_machine.specs.Counts.{Adds, nets_of, port_nets}
use Rattle.emu_machine.proofs.drivers.count_ports.Given as goal

abbrev pub invariant-ports : goal.invariant-ports
invariant-ports l = Adds (nets_of (port_nets (take l.place l.ports))) l.initial.drivers l.drivers
