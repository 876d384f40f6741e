-- The nets so far were added.
use Rattle.std.proofs.Common.{take}
use Rattle.emu_machine.specs.Counts.{Adds, nets_of}
use Rattle.emu_machine.proofs.drivers.count_nets.Given as goal

abbrev pub invariant-nets : goal.invariant-nets
invariant-nets l = Adds (nets_of (take l.place l.nets)) l.initial.drivers l.drivers
