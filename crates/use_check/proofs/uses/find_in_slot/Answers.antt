-- The actions of a slot are taken in order.
use Rattle.std.proofs.Common.{◌≤◌, ◌∙◌, [], ◌∷◌, sym, length, subst, arith, refl, List}
use Rattle.emu_machine.specs.declared.schedule.Action.{Action}
use Rattle.emu_machine.specs.declared.place.Place.TheVariants as place
use Rattle.emu_machine.specs.State.{frame_slots}
use Rattle.use_check.specs.Uses.{FailsUse}
use Rattle.use_check.proofs.Looking.{short}
use Rattle.use_check.proofs.Using.{action_at, found, longer, noted_next, passed, past_actions}
use Rattle.use_check.proofs.Walk as walk
use Rattle.use_check.proofs.uses.find_in_slot.Goals as goal

pub again-requires-clause-there : goal.again-requires-clause-there
again-requires-clause-there c =
    c.requires.judged.can.there c.args.frame c.args.slot c.each.j _ (action_at c.args.actions.now _ c.each.j _ c.requires.actions c.each-test.true)

pub note-requires-clause-there : goal.note-requires-clause-there
note-requires-clause-there c =
    c.requires.judged.can.there c.args.frame c.args.slot c.each.j _ (action_at c.args.actions.now _ c.each.j _ c.requires.actions c.each-test.true)

pub returns-in-Some-clause-least : goal.returns-in-Some-clause-least
returns-in-Some-clause-least c =
    walk.found (FailsUse c.args.judged.now.board.now.wires c.args.judged.now.results.now) (c.args.frame ∷ c.args.slot ∷ [])
    (longer c.args.judged.now.board.now.wires c.args.judged.now.results.now 2 (omega arith)) c.each.j (place.Again c.args.frame c.args.slot c.each.j c.in-Some.thing) c.each.invariant.none
    (found c.args.judged.now.board.now.wires c.args.judged.now.results.now c.args.frame c.args.slot c.each.j _
    (action_at c.args.actions.now _ c.each.j _ c.requires.actions c.each-test.true)
    c.each.tables.free c.each.tables.stamps c.each.invariant.told
    (c.requires.judged.can.there c.args.frame c.args.slot c.each.j _ (action_at c.args.actions.now _ c.each.j _ c.requires.actions c.each-test.true))
    (short c.args.judged.now.board.now c.requires.judged.sound _) c.in-Some.thing (sym c.again.ensures ∙ c.in-Some.is))

pub each-preserved : goal.each-preserved
each-preserved c =
    record {
      told =
          noted_next c.args.judged.now.board.now.wires c.args.judged.now.results.now.net (frame_slots c.args.judged.now.results.now c.args.frame) c.args.slot c.each.j _
          c.each.tables.free c.each.tables.stamps c.note.new.self.free c.note.new.self.stamps
          (action_at c.args.actions.now _ c.each.j _ c.requires.actions c.each-test.true) c.each.invariant.told
          (c.requires.judged.can.there c.args.frame c.args.slot c.each.j _ (action_at c.args.actions.now _ c.each.j _ c.requires.actions c.each-test.true))
          (short c.args.judged.now.board.now c.requires.judged.sound _) (sym c.again.ensures ∙ c.in_default.is) c.note.ensures.free c.note.ensures.stamps;
      none =
          walk.more (FailsUse c.args.judged.now.board.now.wires c.args.judged.now.results.now) (c.args.frame ∷ c.args.slot ∷ []) c.each.j _ c.each.invariant.none
          (passed c.args.judged.now.board.now.wires c.args.judged.now.results.now c.args.frame c.args.slot c.each.j _
          (action_at c.args.actions.now _ c.each.j _ c.requires.actions c.each-test.true)
          c.each.tables.free c.each.tables.stamps c.each.invariant.told
          (c.requires.judged.can.there c.args.frame c.args.slot c.each.j _ (action_at c.args.actions.now _ c.each.j _ c.requires.actions c.each-test.true))
          (short c.args.judged.now.board.now c.requires.judged.sound _) (sym c.again.ensures ∙ c.in_default.is))
          refl;
    }

pub returns-clause-least : goal.returns-clause-least
returns-clause-least c =
    walk.nowhere (FailsUse c.args.judged.now.board.now.wires c.args.judged.now.results.now) (c.args.frame ∷ c.args.slot ∷ [])
    (longer c.args.judged.now.board.now.wires c.args.judged.now.results.now 2 (omega arith)) c.each.j c.each.invariant.none
    (λ j high. past_actions c.args.judged.now.board.now.wires c.args.judged.now.results.now c.args.frame c.args.slot j
    (subst (λ (xs : List Action). length xs ≤ j) c.requires.actions (omega (arith, high, c.each-test.false))))
