-- The steps so far are those of the nodes at the places so far.
use Rattle.std.proofs.Common.{◌≡◌, ℕ, length}
use Rattle.std.specs.Prelude.{Some, slice_get}
use Rattle.design_core.specs.declared.node.NodeId.{NodeId}
use Rattle.settled_model.specs.declared.steps.Step.{Step}
use Rattle.settled_model.specs.Steps.{IsStep}
use Rattle.settled_model.proofs.steps.steps_of.Given as goal

abbrev pub invariant-places : goal.invariant-places
invariant-places l = record {
  size : length l.steps.items ≡ l.place;
  each : (k : ℕ) (node : NodeId) (step : Step) → slice_get l.ranked.order k ≡ Some node → slice_get l.steps.items k ≡ Some step → IsStep l.ranked.design node step;
}
