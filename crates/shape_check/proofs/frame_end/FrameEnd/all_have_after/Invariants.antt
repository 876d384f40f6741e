use Rattle.std.proofs.Common.{◌≡◌, drop}
use Rattle.std.specs.List.{list_all}
use Rattle.emu_machine.specs.Acceptance.{ends_after}
use Rattle.shape_check.specs.Influences.{inside_of}
use Rattle.shape_check.proofs.frame_end.FrameEnd.all_have_after.Given as goal

abbrev pub invariant-nets : goal.invariant-nets
invariant-nets l =
    list_all (ends_after l.self.judged (inside_of l.self.spread) l.self.frame l.chip.place) (drop l.net-index l.nets)
    ≡ list_all (ends_after l.self.judged (inside_of l.self.spread) l.self.frame l.chip.place) l.nets
