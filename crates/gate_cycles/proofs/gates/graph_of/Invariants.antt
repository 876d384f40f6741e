use Rattle.std.proofs.Common.{◌≡◌, map, take}
use Rattle.gate_cycles.specs.Gates.{gate_row}
use Rattle.gate_cycles.proofs.gates.graph_of.Given as goal

abbrev pub invariant-each : goal.invariant-each
invariant-each l = l.graph ≡ map (gate_row l.table) (take l.gate-index l.gates)
