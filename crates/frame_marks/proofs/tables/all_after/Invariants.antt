-- The nets that are left tell the same as all.
use Rattle.std.proofs.Common.{◌≡◌, drop}
use Rattle.emu_machine.specs.Marks.{all_after}
use Rattle.frame_marks.specs.Tables.{marks_in}
use Rattle.frame_marks.proofs.tables.all_after.Given as goal

abbrev pub invariant-nets : goal.invariant-nets
invariant-nets l = all_after (marks_in l.start.chips l.chip.place (drop l.net-index l.nets)) ≡ all_after (marks_in l.start.chips l.chip.place l.nets)
