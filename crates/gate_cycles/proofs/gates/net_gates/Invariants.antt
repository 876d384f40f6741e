use Rattle.gate_cycles.specs.Gates.{IsTableOf}
use Rattle.gate_cycles.proofs.gates.net_gates.Given as goal

abbrev pub invariant-each : goal.invariant-each
invariant-each l = IsTableOf l.chip l.k l.table
