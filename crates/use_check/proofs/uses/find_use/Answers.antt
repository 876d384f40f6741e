-- The frames are taken in order.
use Rattle.std.proofs.Common.{◌≤◌, ◌∙◌, [], ap, length, subst, arith, refl, List}
use Rattle.emu_machine.specs.declared.schedule.Frame.{Frame}
use Rattle.emu_machine.specs.declared.schedule.Schedule.{Schedule}
use Rattle.use_check.specs.Uses.{FailsUse}
use Rattle.use_check.proofs.Using.{longer, past_frames}
use Rattle.use_check.proofs.Walk.{least_found, least_none, more, nowhere}
use Rattle.use_check.proofs.uses.find_use.Goals as goal

pub returns-in-Some : goal.returns-in-Some
returns-in-Some c =
    least_found (FailsUse c.args.judged.now.board.now.wires c.args.judged.now.results.now)
    (longer c.args.judged.now.board.now.wires c.args.judged.now.results.now 0 (omega arith)) c.each.k c.find_in_frame.result _ c.each.invariant c.find_in_frame.ensures c.in-Some.is

pub each-preserved : goal.each-preserved
each-preserved c =
    more (FailsUse c.args.judged.now.board.now.wires c.args.judged.now.results.now) [] c.each.k _ c.each.invariant c.in_default.ensures refl

pub returns : goal.returns
returns c =
    least_none (FailsUse c.args.judged.now.board.now.wires c.args.judged.now.results.now)
    (nowhere (FailsUse c.args.judged.now.board.now.wires c.args.judged.now.results.now) []
    (longer c.args.judged.now.board.now.wires c.args.judged.now.results.now 0 (omega arith)) c.each.k c.each.invariant
    (λ k high. past_frames c.args.judged.now.board.now.wires c.args.judged.now.results.now k
    (subst (λ (xs : List Frame). length xs ≤ k) (c.as_slice-frames.ensures ∙ ap (λ (s : Schedule). s.frames) c.schedule.ensures) (omega (arith, high, c.each-test.false)))))
