use Rattle.std.proofs.Common.{◌≡◌, drop, map}
use Rattle.emu_machine.specs.declared.map.Subject.TheVariants.{Net}
use Rattle.emu_machine.specs.Origins.{have_subjects}
use Rattle.shape_check.proofs.gates.are_nets.Given as goal

abbrev pub invariant-each : goal.invariant-each
invariant-each l = have_subjects l.case.results l.chip.place (drop l.i l.nets) (map Net (drop l.i l.of)) ≡ have_subjects l.case.results l.chip.place l.nets (map Net l.of)
