use Rattle.std.proofs.Common.{ap, subst, ◌∙◌}
use Rattle.emu_machine.specs.Marks.{Mark}
use Rattle.shape_check.specs.Ends.{AreEndMarks, FrameEnd}
use Rattle.shape_check.proofs.FrameEnds.{shown}
use Rattle.shape_check.proofs.frame_end.FrameEnd.has_after.Goals as goal

pub returns : goal.returns
returns c =
    ap (λ (m : Mark). m.after) (c.result.view_is ∙ c.marks.ensures)
    ∙ shown c.args.self.now c.self.inside.marks.now (subst (λ (e : FrameEnd). AreEndMarks e c.self.inside.marks.now) c.self.view_is c.self.invariant) c.args.chip.place c.args.net c.requires
