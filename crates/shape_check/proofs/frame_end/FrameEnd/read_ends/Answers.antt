use Rattle.std.proofs.Common.{◌≡◌, ap, sym, subst, ◌∙◌, List}
use Rattle.std.specs.Prelude.{Some, option_copied, slice_get}
use Rattle.emu_machine.specs.Building.{IsBuilt}
use Rattle.emu_machine.specs.Acceptance.{Case}
use Rattle.id_arena.specs.declared.keys.ChipNetId.{ChipNetId}
use Rattle.shape_check.specs.Ends.{FrameEnd}
use Rattle.shape_check.proofs.FrameEnds.{port_bits_end}
use Rattle.shape_check.proofs.frame_end.FrameEnd.read_ends.Goals as goal

pub all_have_after-requires : goal.all_have_after-requires
all_have_after-requires c k net at =
    let judged : c.self.inside.case.now ≡ c.args.self.now.judged = ap (λ (e : FrameEnd). e.judged) c.self.view_is in
    port_bits_end c.args.self.now (subst (λ (x : Case). IsBuilt x.results.net) judged c.stands.ensures.netlist) c.args.chip.place c.args.mem.place c.args.port c.in-Some.found.now
    (sym c.read_port.ensures ∙ ap option_copied c.in-Some.is) k net
    (subst (λ (xs : List ChipNetId). slice_get xs k ≡ Some net) c.as_slice.ensures at)
