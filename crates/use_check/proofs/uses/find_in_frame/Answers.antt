-- The slots of a frame are taken in order.
use Rattle.std.proofs.Common.{◌≤◌, ◌∙◌, [], ◌∷◌, sym, ap, length, subst, arith, refl, List}
use Rattle.emu_machine.specs.declared.schedule.Action.{Action}
use Rattle.emu_machine.specs.declared.schedule.Slot.{Slot}
use Rattle.emu_machine.specs.State.{frame_slots}
use Rattle.use_check.specs.Uses.{FailsUse}
use Rattle.use_check.proofs.Using.{actions_at, longer, past_slots, slot_next}
use Rattle.use_check.proofs.Walk.{found_in, more, nowhere}
use Rattle.use_check.proofs.uses.find_in_frame.Goals as goal

pub returns-in-Some : goal.returns-in-Some
returns-in-Some c =
    found_in (FailsUse c.args.judged.now.board.now.wires c.args.judged.now.results.now) (c.args.frame ∷ [])
    (longer c.args.judged.now.board.now.wires c.args.judged.now.results.now 1 (omega arith)) c.each.t c.find_in_slot.result _ c.each.invariant.none c.find_in_slot.ensures.least c.in-Some.is

pub each-preserved : goal.each-preserved
each-preserved c =
    record {
      told =
          slot_next c.args.judged.now.board.now.wires c.args.judged.now.results.now.net (frame_slots c.args.judged.now.results.now c.args.frame) c.each.t (length c.as_slice.result.now)
          c.find_in_slot.new.tables.free c.find_in_slot.new.tables.stamps
          (ap (λ (xs : List Action). length xs) (c.as_slice.ensures ∙ ap (λ (slot : Slot). slot.actions) (sym c.index-slots-t.is) ∙ sym (actions_at c.args.slots.now _ c.each.t _ c.requires.slots c.each-test.true c.index-slots-t.is)))
          (c.find_in_slot.ensures.told c.in_default.is);
      none = more (FailsUse c.args.judged.now.board.now.wires c.args.judged.now.results.now) (c.args.frame ∷ []) c.each.t _ c.each.invariant.none c.in_default.ensures.least refl;
    }

pub returns : goal.returns
returns c =
    nowhere (FailsUse c.args.judged.now.board.now.wires c.args.judged.now.results.now) (c.args.frame ∷ [])
    (longer c.args.judged.now.board.now.wires c.args.judged.now.results.now 1 (omega arith)) c.each.t c.each.invariant.none
    (λ t high. past_slots c.args.judged.now.board.now.wires c.args.judged.now.results.now c.args.frame t
    (subst (λ (xs : List Slot). length xs ≤ t) c.requires.slots (omega (arith, high, c.each-test.false))))
