use Rattle.std.proofs.Common.{◌≡◌, ◌+◌, ◌*◌, ◌≤◌, drop}
use Rattle.shape_check.specs.Weights.{gates_weight}
use Rattle.shape_check.proofs.weights.gates_weight.Given as goal

abbrev pub invariant-each : goal.invariant-each
invariant-each l = record {
  small : l.weight ≤ 64 * l.gate-index;
  sum : l.weight + gates_weight l.case l.chip.place (drop l.gate-index l.gates) ≡ gates_weight l.case l.chip.place l.gates;
}
