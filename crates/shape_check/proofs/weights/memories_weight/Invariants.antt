use Rattle.std.proofs.Common.{◌≡◌, ◌+◌, ◌*◌, ◌≤◌, drop}
use Rattle.std.specs.Prelude.{sum_by}
use Rattle.emu_machine.specs.Acceptance.{memory_weight}
use Rattle.shape_check.proofs.weights.memories_weight.Given as goal

abbrev pub invariant-each : goal.invariant-each
invariant-each l = record {
  small : l.weight ≤ 8388608 * l.memory-index;
  sum : l.weight + sum_by memory_weight (drop l.memory-index l.memories) ≡ sum_by memory_weight l.memories;
}
