-- The inputs so far that are 1, with those that are left, are all that are.
use Rattle.std.proofs.Common.{◌≡◌, ◌≤◌, ◌+◌, drop, length}
use Rattle.std.specs.Prelude.{count_by, All}
use Rattle.cycle_sim.specs.Standing.{IsThere}
use Rattle.cycle_sim.specs.Values.{values_in}
use Rattle.cycle_sim.proofs.gates.odd_ones.Given as goal

abbrev pub invariant-inputs : goal.invariant-inputs
invariant-inputs l = record {
  rest : l.ones + count_by (λ b. b) (values_in l.table (drop l.input-index l.inputs)) ≡ count_by (λ b. b) (values_in l.table l.inputs);
  few : l.ones ≤ l.input-index;
  there : All (IsThere (length l.table)) (drop l.input-index l.inputs);
}
