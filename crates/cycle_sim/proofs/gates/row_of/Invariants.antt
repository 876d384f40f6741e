-- The row so far, with what the inputs that are left contribute, is the whole row.
use Rattle.std.proofs.Common.{◌≡◌, ◌+◌, ◌*◌, ◌^◌, ◌<◌, drop, length}
use Rattle.std.specs.Prelude.{All}
use Rattle.design_core.specs.Operation.{number}
use Rattle.cycle_sim.specs.Standing.{IsThere}
use Rattle.cycle_sim.specs.Values.{values_in}
use Rattle.cycle_sim.proofs.gates.row_of.Given as goal

abbrev pub invariant-inputs : goal.invariant-inputs
invariant-inputs l = record {
  rest : l.row + l.weight * number (values_in l.table (drop l.input-index l.inputs)) ≡ number (values_in l.table l.inputs);
  weight : l.weight ≡ 2 ^ l.input-index;
  low : l.row < l.weight;
  there : All (IsThere (length l.table)) (drop l.input-index l.inputs);
}
