-- The actions of a slot are taken in order.
use Rattle.std.proofs.Common.{◌≡◌, ◌≤◌, ◌∙◌, [], ◌∷◌, sym, length, subst, arith, refl, List, get_or, ℕ, ◌<◌}
use Rattle.std.specs.Prelude.{slice_get, Some}
use Rattle.std.proofs.lemmas.Option.{slice_get-get_or}
use Rattle.emu_machine.specs.declared.schedule.Action.{Action}
use Rattle.shape_check.specs.Actions.{FailsTest}
use Rattle.shape_check.proofs.Acting.{failed, longer, passed, past_actions}
use Rattle.use_check.proofs.Walk.{found, more, nowhere}
use Rattle.shape_check.proofs.actions.find_in_slot.Goals as goal

-- the element at a place of a list that is known as another
element : (xs ys : List Action) (j : ℕ) (d : Action) → xs ≡ ys → j < length xs → slice_get ys j ≡ Some (get_or xs j d)
element xs ys j d same low = subst (λ (zs : List Action). slice_get zs j ≡ Some (get_or xs j d)) same (slice_get-get_or xs j d low)

pub returns-then-not-is_passed : goal.returns-then-not-is_passed
returns-then-not-is_passed c =
    found (FailsTest c.args.case.now c.args.test) (c.args.frame ∷ c.args.slot ∷ []) (longer c.args.case.now c.args.test 2 (omega arith)) c.each.j _ c.each.invariant
    (failed c.args.case.now c.args.test c.args.frame c.args.slot c.each.j _
    (element c.args.actions.now _ c.each.j _ c.requires.actions c.each-test.true)
    (sym c.is_passed.ensures ∙ c.if-not-is_passed.true))

pub each-preserved : goal.each-preserved
each-preserved c =
    more (FailsTest c.args.case.now c.args.test) (c.args.frame ∷ c.args.slot ∷ []) c.each.j _ c.each.invariant
    (passed c.args.case.now c.args.test c.args.frame c.args.slot c.each.j _
    (element c.args.actions.now _ c.each.j _ c.requires.actions c.each-test.true)
    (sym c.is_passed.ensures ∙ c.if-not-is_passed.false))
    refl

pub returns : goal.returns
returns c =
    nowhere (FailsTest c.args.case.now c.args.test) (c.args.frame ∷ c.args.slot ∷ []) (longer c.args.case.now c.args.test 2 (omega arith)) c.each.j c.each.invariant
    (λ j high. past_actions c.args.case.now c.args.test c.args.frame c.args.slot j
    (subst (λ (xs : List Action). length xs ≤ j) c.requires.actions (omega (arith, high, c.each-test.false))))
