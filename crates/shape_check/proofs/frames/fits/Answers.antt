-- A frame is told from its group.
use Rattle.std.proofs.Common.{◌≡◌, ◌∙◌, sym, refl, length, subst, List}
use Rattle.std.specs.Prelude.{slice_get, Some}
use Rattle.std.proofs.lemmas.Option.{slice_get_read}
use Rattle.emu_machine.specs.declared.schedule.Frame.{Frame}
use Rattle.shape_check.proofs.Framing.{form_tells}
use Rattle.shape_check.proofs.frames.fits.Goals as goal

pub returns : goal.returns
returns c =
    c.has_form.ensures
    ∙ form_tells c.args.case.now _ _ c.index-frames-group.result c.group_name.result.now c.slots.result
    (subst (λ (fs : List Frame). slice_get fs c.args.group ≡ Some c.index-frames-group.result) c.frames-frames.ensures (slice_get_read c.frames-frames.result.now (length c.frames-frames.result.now) c.args.group c.index-frames-group.result refl c.if-group-frames.false c.index-frames-group.is))
    c.group_name.ensures (sym c.slots.ensures)
