-- The gates so far were added.
use Rattle.std.proofs.Common.{take}
use Rattle.emu_machine.specs.Counts.{Adds, gates_of}
use Rattle.emu_machine.proofs.drivers.count_gates.Given as goal

abbrev pub invariant-gates : goal.invariant-gates
invariant-gates l = Adds (gates_of (take l.place l.gates)) l.initial.drivers l.drivers
