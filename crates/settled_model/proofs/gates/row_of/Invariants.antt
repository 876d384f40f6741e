-- The row so far, with what the inputs that are left contribute, is the whole row.
use Rattle.std.proofs.Common.{◌≡◌, ◌+◌, ◌*◌, ◌^◌, ◌<◌, drop, length}
use Rattle.std.specs.Prelude.{IsTrue}
use Rattle.design_core.specs.Faults.{are_there}
use Rattle.design_core.specs.Operation.{number}
use Rattle.design_core.specs.Valuation.{values}
use Rattle.settled_model.specs.Held.{shown}
use Rattle.settled_model.proofs.gates.row_of.Given as goal

abbrev pub invariant-inputs : goal.invariant-inputs
invariant-inputs l = record {
  rest : l.row + l.weight * number (values (shown l.nets) (drop l.input-index l.inputs)) ≡ number (values (shown l.nets) l.inputs);
  weight : l.weight ≡ 2 ^ l.input-index;
  low : l.row < l.weight;
  there : IsTrue (are_there (length l.nets) (drop l.input-index l.inputs));
}
