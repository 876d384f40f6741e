use Rattle.std.proofs.Common.{◌≡◌, drop}
use Rattle.emu_machine.specs.Origins.{have_subjects}
use Rattle.shape_check.proofs.gates.are.Given as goal

abbrev pub invariant-each : goal.invariant-each
invariant-each l = have_subjects l.case.results l.chip.place (drop l.i l.nets) (drop l.i l.subjects) ≡ have_subjects l.case.results l.chip.place l.nets l.subjects
