use Rattle.std.proofs.Common.{◌≡◌, ◌+◌, ℕ, suc, subst, arith}
use Rattle.emu_machine.specs.Marks.{marks_at}
use Rattle.frame_marks.specs.Frames.{frame_state}
use Rattle.frame_marks.specs.Tables.{IsBetween}
use Rattle.frame_marks.proofs.slots.follow_slots.Goals as goal

pub slots-preserved : goal.slots-preserved
slots-preserved g c =
    let next : suc c.slots.t ≡ c.slots.t + 1 = omega arith in
    subst
    (λ (k : ℕ). IsBetween (g.I.Inside.inside c.args.inside.now)
    (marks_at c.args.plan.design.now c.args.plan.results.now c.args.plan.wires.now (g.I.Inside.inside c.args.inside.now) c.args.frame.slots.now k)
    (frame_state c.args.plan.design.now c.args.plan.results.now c.args.plan.wires.now c.do_slot.new.chips c.do_slot.new.memories c.do_slot.new.carried))
    next
    (c.in_ok-do_slot.ensures.followed (marks_at c.args.plan.design.now c.args.plan.results.now c.args.plan.wires.now (g.I.Inside.inside c.args.inside.now) c.args.frame.slots.now c.slots.t) c.slots.invariant)
