use Rattle.std.proofs.Common.{◌≡◌, replicate}
use Rattle.gate_cycles.proofs.gates.no_gates.Given as goal

abbrev pub invariant-each : goal.invariant-each
invariant-each l = l.table ≡ replicate l.counter 4294967295
