use Rattle.std.proofs.Common.{take}
use Rattle.result_files.specs.Drivers.{AddsDrivers, gate_output}
use Rattle.result_files.proofs.drivers.count_gates.Given as goal

-- the gates so far were added
abbrev pub invariant-gates : goal.invariant-gates
invariant-gates l = AddsDrivers gate_output (take l.place l.gates) l.initial.drivers l.drivers
