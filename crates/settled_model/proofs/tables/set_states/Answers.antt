-- Each of the elements is there, and so is its output.
use Rattle.std.proofs.Common.{◌≡◌, ℕ, true, get_or, subst, sym, ◌∙◌}
use Rattle.design_core.specs.Faults.{are_there, element_outputs}
use Rattle.settled_model.proofs.Ranges.{outputs_there, item_among}
use Rattle.settled_model.proofs.tables.set_states.Goals as goal

pub elem-requires : goal.elem-requires
elem-requires c =
    c.requires.ones (get_or c.args.ones.now c.ones.id-index (record { place = 0 }))
    (item_among c.args.ones.now c.ones.id-index (record { place = 0 }) c.ones-test.true)

pub set_state-requires : goal.set_state-requires
set_state-requires c =
    subst (λ (k : ℕ). are_there k (element_outputs c.elem.result.now) ≡ true) (sym (c.ones.invariant.size ∙ c.requires.size))
    (outputs_there c.args.design.now c.requires.design _ c.elem.result.now c.elem.ensures.here)
