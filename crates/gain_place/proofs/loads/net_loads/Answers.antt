use Rattle.std.proofs.Common.{◌≡◌, ◌++◌, List, ℕ, ap, subst, ◌∙◌}
use Rattle.design_core.specs.Design.{net_count}
use Rattle.id_arena.specs.declared.keys.ElemId.{ElemId}
use Rattle.gain_place.specs.Lists.{HasUnder}
use Rattle.gain_place.specs.Tables.{touched}
use Rattle.gain_place.proofs.Standing.{heads_in, stand_fresh, stand_more, touched_there}
use Rattle.gain_place.proofs.loads.net_loads.Goals as goal
use Rattle.std.proofs.Common.{length}

pub put_under-requires-clause-heads : goal.put_under-requires-clause-heads
put_under-requires-clause-heads c =
    let here : c.as_slice.result.now ≡ touched c.args.design.now c.elements.elem
    = c.as_slice.ensures.value ∙ c.in_ok-add_touched.ensures
    ∙ ap (λ (xs : List ℕ). xs ++ touched c.args.design.now c.of.result.place) c.clear.ensures.items
    ∙ ap (λ (e : ElemId). touched c.args.design.now e.place) c.of.ensures in
    heads_in c.as_slice.result.now (touched c.args.design.now c.elements.elem) (net_count c.args.design.now) (length c.elements.loads.items) here
    (touched_there c.args.design.now c.stands.ensures.design c.elements.elem) c.elements.invariant.count

pub put_under-requires-clause-fresh : goal.put_under-requires-clause-fresh
put_under-requires-clause-fresh c =
    stand_fresh (touched c.args.design.now) (net_count c.args.design.now) c.elements.elem c.elements.loads.items c.elements.invariant

pub elements-preserved : goal.elements-preserved
elements-preserved c =
    let here : c.as_slice.result.now ≡ touched c.args.design.now c.elements.elem
    = c.as_slice.ensures.value ∙ c.in_ok-add_touched.ensures
    ∙ ap (λ (xs : List ℕ). xs ++ touched c.args.design.now c.of.result.place) c.clear.ensures.items
    ∙ ap (λ (e : ElemId). touched c.args.design.now e.place) c.of.ensures in
    stand_more (touched c.args.design.now) (net_count c.args.design.now) c.elements.elem c.elements.loads.items c.elements.invariant c.put_under.new.table.items
    (subst (λ (heads : List ℕ). HasUnder heads c.elements.elem c.elements.loads.items c.put_under.new.table.items) here c.in_ok-put_under.ensures)
