-- The net that a gate follows is there, and a gate of one input gives its value or the other one.
use Rattle.std.proofs.Common.{◌≡◌, ℕ, true, subst, sym}
use Rattle.design_core.specs.Faults.{is_there}
use Rattle.settled_model.specs.declared.steps.Step.{Step}
use Rattle.settled_model.specs.Steps.{IsStep}
use Rattle.settled_model.proofs.Plans.{input_there}
use Rattle.settled_model.proofs.pass.take_step.Goals as goal

pub value_of-requires : goal.value_of-requires
value_of-requires c =
    let is = subst (λ (s : Step). IsStep c.args.design.now c.requires.step.node s) c.in-Follow.is c.requires.step.is in
    subst (λ (k : ℕ). is_there k c.in-Follow.input ≡ true) (sym c.requires.new_size)
    (input_there c.args.design.now c.requires.design c.in-Follow.net c.in-Follow.input c.in-Follow.inverts is.1)
