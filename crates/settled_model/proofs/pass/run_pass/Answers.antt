-- One more node has its turn, and in the end all have had it.
use Rattle.std.proofs.Common.{◌≡◌, ◌<◌, ℕ, length, get_or, subst, arith}
use Rattle.std.specs.Prelude.{Some, slice_get}
use Rattle.std.proofs.lemmas.Option.{slice_get-get_or}
use Rattle.design_core.specs.declared.node.NodeId.{NodeId}
use Rattle.design_core.specs.declared.node.NodeId.TheVariants.{Net}
use Rattle.design_core.specs.declared.parts.Parts.{Parts}
use Rattle.design_core.specs.Design.{IsDesign}
use Rattle.settled_model.specs.Passing.{HasRenewed}
use Rattle.settled_model.proofs.Orders.{order_of}
use Rattle.settled_model.proofs.Plans.{step_there, step_at}
use Rattle.settled_model.proofs.Progress.{IsPassed, one_passed, all_passed}
use Rattle.settled_model.proofs.pass.run_pass.Goals as goal

pub take_step-requires-clause-step : goal.take_step-requires-clause-step
take_step-requires-clause-step c =
    let low : c.nodes.place < length c.args.ranked.now.order = omega (arith, c.nodes-test.true, c.nodes.auto.place-end, c.len-place-end.ensures) in
    step_there c.args.ranked.now.design c.design-design.result.now c.args.ranked.now.order c.args.steps.now c.nodes.place _ c.design-design.ensures c.stands-2.ensures c.requires.steps low

pub nodes-preserved : goal.nodes-preserved
nodes-preserved c =
    let low : c.nodes.place < length c.args.ranked.now.order = omega (arith, c.nodes-test.true, c.nodes.auto.place-end, c.len-place-end.ensures) in
    let node : NodeId = get_or c.args.ranked.now.order c.nodes.place (Net (record { place = 0 })) in
    let at : slice_get c.args.ranked.now.order c.nodes.place ≡ Some node = slice_get-get_or c.args.ranked.now.order c.nodes.place _ low in
    one_passed c.args.ranked.now.design (subst IsDesign c.design-design.ensures c.stands.ensures.design) c.args.ranked.now.order (order_of c.args.ranked.now.design c.args.ranked.now.order c.orders_are_sorted.ensures c.stands-2.ensures) c.args.turn c.args.old.now c.args.new.now c.args.words.now c.nodes.place c.nodes.new c.nodes.words c.nodes.invariant
    node c.take_step.new.new c.take_step.new.words at
    (subst (λ (p : Parts). HasRenewed p c.args.turn c.args.old.now node c.nodes.new c.nodes.words c.take_step.new.new c.take_step.new.words) c.design-design.ensures
    (c.take_step.ensures node
    (step_at c.args.ranked.now.design c.design-design.result.now c.args.ranked.now.order c.args.steps.now c.nodes.place _ node c.design-design.ensures c.requires.steps low at)))

pub returns : goal.returns
returns c =
    let whole : c.nodes.place ≡ length c.args.ranked.now.order = omega (arith, c.nodes-test.false, c.nodes.auto.place-end, c.len-place-end.ensures) in
    all_passed c.args.ranked.now.design c.args.ranked.now.order c.args.turn c.args.old.now c.args.new.now c.args.words.now c.nodes.new c.nodes.words (order_of c.args.ranked.now.design c.args.ranked.now.order c.orders_are_sorted.ensures c.stands-2.ensures)
    (subst (λ (k : ℕ). IsPassed c.args.ranked.now.design c.args.ranked.now.order c.args.turn c.args.old.now c.args.new.now c.args.words.now k c.nodes.new c.nodes.words) whole c.nodes.invariant)
