use Rattle.std.proofs.Common.{◌≡◌, ◌++◌, drop, take}
use Rattle.gate_cycles.specs.Gates.{drivers}
use Rattle.gate_cycles.proofs.gates.put_drivers.Given as goal

abbrev pub invariant-each : goal.invariant-each
invariant-each l = l.needs.items ++ drivers l.table (drop l.net-index l.nets) ≡ drivers l.table l.nets
