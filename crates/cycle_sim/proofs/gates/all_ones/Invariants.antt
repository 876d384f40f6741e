-- What is asked of all inputs is asked of those that are left.
use Rattle.std.proofs.Common.{◌≡◌, drop, length}
use Rattle.std.specs.Prelude.{All}
use Rattle.design_core.specs.Operation.{all_ones}
use Rattle.cycle_sim.specs.Standing.{IsThere}
use Rattle.cycle_sim.specs.Values.{values_in}
use Rattle.cycle_sim.proofs.gates.all_ones.Given as goal

abbrev pub invariant-inputs : goal.invariant-inputs
invariant-inputs l = record {
  rest : all_ones (values_in l.table (drop l.input-index l.inputs)) ≡ all_ones (values_in l.table l.inputs);
  there : All (IsThere (length l.table)) (drop l.input-index l.inputs);
}
