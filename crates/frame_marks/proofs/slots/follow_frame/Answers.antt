use Rattle.std.proofs.Common.{◌∙◌}
use Rattle.emu_machine.specs.Marks.{marks_at}
use Rattle.frame_marks.specs.Frames.{frame_state}
use Rattle.frame_marks.proofs.Starting.{begun}
use Rattle.frame_marks.proofs.Stepping.{shown}
use Rattle.frame_marks.proofs.slots.follow_frame.Goals as goal

pub follow_slots-requires-clause-start : goal.follow_slots-requires-clause-start
follow_slots-requires-clause-start g c =
    begun c.args.plan.design.now c.args.plan.results.now c.args.plan.wires.now (g.I.Inside.inside c.args.inside.now)
    c.start_chips.new.chips c.start_memories.new.memories c.start_wires.new.carried
    (record {
      chips = c.start_chips.ensures.tables;
      memories = c.start_memories.ensures.tables;
      carried = c.start_wires.ensures.size ∙ c.requires.tables.carried;
    })
    c.start_chips.ensures.others c.start_chips.ensures.started c.start_memories.ensures.started c.start_wires.ensures.started

pub returns-clause-shows : goal.returns-clause-shows
returns-clause-shows g c =
    shown (g.I.Inside.inside c.args.inside.now)
    (marks_at c.args.plan.design.now c.args.plan.results.now c.args.plan.wires.now (g.I.Inside.inside c.args.inside.now) c.args.frame.slots.now _)
    (frame_state c.args.plan.design.now c.args.plan.results.now c.args.plan.wires.now c.follow_slots.new.chips c.follow_slots.new.memories c.follow_slots.new.carried)
    c.in_ok-follow_slots.ensures.followed
