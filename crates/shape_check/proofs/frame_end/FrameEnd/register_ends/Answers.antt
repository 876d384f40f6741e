use Rattle.std.proofs.Common.{◌≡◌, ap, sym, subst, ◌∙◌}
use Rattle.std.specs.Prelude.{Some}
use Rattle.emu_machine.specs.Building.{IsBuilt}
use Rattle.emu_machine.specs.Acceptance.{Case, register_at}
use Rattle.shape_check.specs.Ends.{FrameEnd}
use Rattle.shape_check.proofs.FrameEnds.{end_q}
use Rattle.shape_check.proofs.frame_end.FrameEnd.register_ends.Goals as goal

pub has_after-requires : goal.has_after-requires
has_after-requires c =
    let judged : c.self.inside.case.now ≡ c.args.self.now.judged = ap (λ (e : FrameEnd). e.judged) c.self.view_is in
    end_q c.args.self.now (subst (λ (x : Case). IsBuilt x.results.net) judged c.stands.ensures.netlist) c.args.chip.place c.args.register.place c.in-Some.found
    (subst (λ (x : Case). register_at x c.args.chip.place c.args.register.place ≡ Some c.in-Some.found) judged (sym c.register.ensures ∙ c.in-Some.is))
