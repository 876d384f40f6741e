-- What is asked of all inputs is asked of those that are left.
use Rattle.std.proofs.Common.{◌≡◌, drop, length}
use Rattle.std.specs.Prelude.{IsTrue}
use Rattle.design_core.specs.Faults.{are_there}
use Rattle.design_core.specs.Operation.{all_ones}
use Rattle.design_core.specs.Valuation.{values}
use Rattle.settled_model.specs.Held.{shown}
use Rattle.settled_model.proofs.gates.all_ones.Given as goal

abbrev pub invariant-inputs : goal.invariant-inputs
invariant-inputs l = record {
  rest : all_ones (values (shown l.nets) (drop l.input-index l.inputs)) ≡ all_ones (values (shown l.nets) l.inputs);
  there : IsTrue (are_there (length l.nets) (drop l.input-index l.inputs));
}
