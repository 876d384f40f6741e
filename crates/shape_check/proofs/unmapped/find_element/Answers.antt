-- The elements are taken in order.
use Rattle.std.proofs.Common.{◌≡◌, ◌≤◌, ◌∙◌, [], ◌∷◌, sym, ap, subst, arith, refl, ℕ, length}
use Rattle.std.specs.Prelude.{None, Some, slice_get}
use Rattle.id_arena.specs.declared.keys.ElemId.{ElemId}
use Rattle.design_core.specs.declared.parts.Parts.{Parts}
use Rattle.emu_machine.specs.declared.place.Place.TheVariants as place
use Rattle.emu_machine.specs.Acceptance.{FailsA9}
use Rattle.use_check.specs.Least.{IsLeastUnder}
use Rattle.shape_check.proofs.Lost.{element_fails, element_passes, longer, past_elements}
use Rattle.use_check.proofs.Walk.{found, more, nowhere}
use Rattle.shape_check.proofs.unmapped.find_element.Goals as goal

pub returns-then-not-is_mapped : goal.returns-then-not-is_mapped
returns-then-not-is_mapped c =
    found (FailsA9 c.args.case.now) (1 ∷ []) (longer c.args.case.now 1 (omega arith)) c.each.k (place.Element c.of-elem.result) c.each.invariant
    (subst (λ (k : ℕ). IsLeastUnder (FailsA9 c.args.case.now) (1 ∷ k ∷ []) (Some (place.Element c.of-elem.result))) (ap (λ (x : ElemId). x.place) c.of-elem.ensures)
    (element_fails c.args.case.now c.of-elem.result c.elem.result.now
    (subst (λ (p : Parts). slice_get p.elements c.of-elem.result.place ≡ Some c.elem.result.now) c.design-design.ensures c.elem.ensures.here)
    (sym c.is_mapped.ensures ∙ c.if-not-is_mapped.true)))

pub each-preserved : goal.each-preserved
each-preserved c =
    more (FailsA9 c.args.case.now) (1 ∷ []) c.each.k _ c.each.invariant
    (subst (λ (k : ℕ). IsLeastUnder (FailsA9 c.args.case.now) (1 ∷ k ∷ []) None) (ap (λ (x : ElemId). x.place) c.of-elem.ensures)
    (element_passes c.args.case.now c.of-elem.result.place c.elem.result.now
    (subst (λ (p : Parts). slice_get p.elements c.of-elem.result.place ≡ Some c.elem.result.now) c.design-design.ensures c.elem.ensures.here)
    (sym c.is_mapped.ensures ∙ c.if-not-is_mapped.false)))
    refl

pub returns : goal.returns
returns c =
    nowhere (FailsA9 c.args.case.now) (1 ∷ []) (longer c.args.case.now 1 (omega arith)) c.each.k c.each.invariant
    (λ k high. past_elements c.args.case.now k
    (subst (λ (p : Parts). length p.elements ≤ k) c.design-design.ensures (omega (arith, high, c.each-test.false, c.elems-k-end.ensures.count))))
