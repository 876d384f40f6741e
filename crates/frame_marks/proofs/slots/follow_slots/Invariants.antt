-- The tables have the marks of the start of the slot at hand.
use Rattle.emu_machine.specs.Marks.{marks_at}
use Rattle.frame_marks.specs.Frames.{frame_state}
use Rattle.frame_marks.specs.Tables.{IsBetween}
use Rattle.frame_marks.proofs.slots.follow_slots.Given as goal

abbrev pub invariant-slots : goal.invariant-slots
invariant-slots g l =
    IsBetween (g.I.Inside.inside l.inside)
    (marks_at l.plan.design.now l.plan.results.now l.plan.wires.now (g.I.Inside.inside l.inside) l.frame.slots.now l.t)
    (frame_state l.plan.design.now l.plan.results.now l.plan.wires.now l.chips l.memories l.carried)
