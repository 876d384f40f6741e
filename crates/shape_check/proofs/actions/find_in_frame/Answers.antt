-- The slots of a frame are taken in order.
use Rattle.std.proofs.Common.{◌≤◌, [], ◌∷◌, length, subst, arith, refl, List}
use Rattle.emu_machine.specs.declared.schedule.Slot.{Slot}
use Rattle.shape_check.specs.Actions.{FailsTest}
use Rattle.shape_check.proofs.Acting.{longer, past_slots}
use Rattle.use_check.proofs.Walk.{found_in, more, nowhere}
use Rattle.shape_check.proofs.actions.find_in_frame.Goals as goal

pub returns-in-Some : goal.returns-in-Some
returns-in-Some c =
    found_in (FailsTest c.args.case.now c.args.test) (c.args.frame ∷ []) (longer c.args.case.now c.args.test 1 (omega arith)) c.each.t c.find_in_slot.result _ c.each.invariant c.find_in_slot.ensures c.in-Some.is

pub each-preserved : goal.each-preserved
each-preserved c =
    more (FailsTest c.args.case.now c.args.test) (c.args.frame ∷ []) c.each.t _ c.each.invariant c.in_default.ensures refl

pub returns : goal.returns
returns c =
    nowhere (FailsTest c.args.case.now c.args.test) (c.args.frame ∷ []) (longer c.args.case.now c.args.test 1 (omega arith)) c.each.t c.each.invariant
    (λ t high. past_slots c.args.case.now c.args.test c.args.frame t
    (subst (λ (xs : List Slot). length xs ≤ t) c.requires.slots (omega (arith, high, c.each-test.false))))
