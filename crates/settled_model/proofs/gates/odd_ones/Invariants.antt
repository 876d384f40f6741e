-- The inputs so far that are 1, with those that are left, are all that are.
use Rattle.std.proofs.Common.{◌≡◌, ◌≤◌, ◌+◌, drop, length}
use Rattle.std.specs.Prelude.{count_by, IsTrue}
use Rattle.design_core.specs.Faults.{are_there}
use Rattle.design_core.specs.Valuation.{values}
use Rattle.settled_model.specs.Held.{shown}
use Rattle.settled_model.proofs.gates.odd_ones.Given as goal

abbrev pub invariant-inputs : goal.invariant-inputs
invariant-inputs l = record {
  rest : l.ones + count_by (λ b. b) (values (shown l.nets) (drop l.input-index l.inputs)) ≡ count_by (λ b. b) (values (shown l.nets) l.inputs);
  few : l.ones ≤ l.input-index;
  there : IsTrue (are_there (length l.nets) (drop l.input-index l.inputs));
}
