use Rattle.std.proofs.Common.{◌≡◌, ap, subst, sym, ◌∙◌}
use Rattle.std.specs.Prelude.{Some, option_copied, slice_get}
use Rattle.emu_machine.specs.Acceptance.{Case}
use Rattle.shape_check.specs.Ends.{FrameEnd}
use Rattle.shape_check.proofs.FrameEnds.{writes_are}
use Rattle.shape_check.proofs.frame_end.FrameEnd.writes.Goals as goal

pub returns-in-Some-memory : goal.returns-in-Some-memory
returns-in-Some-memory c =
    let judged : c.self.inside.case.now ≡ c.args.self.now.judged = ap (λ (e : FrameEnd). e.judged) c.self.view_is in
    c.len.ensures
    ∙ writes_are c.args.self.now.judged.design c.args.self.now.judged.results c.args.chip.place c.args.mem.place c.in-Some.entry.now c.in-Some-memory.memory.now
    (sym c.memory_entry.ensures ∙ ap option_copied c.in-Some.is)
    (subst (λ (x : Case). slice_get x.design.memories c.in-Some.entry.now.of.place ≡ Some c.in-Some-memory.memory.now) judged (sym c.memory.ensures ∙ ap option_copied c.in-Some-memory.is))
