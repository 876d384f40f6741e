use Rattle.std.proofs.Common.{◌≡◌, ◌++◌, map, drop}
use Rattle.output_marks.proofs.tables.befores.Given as goal

abbrev pub invariant-marks : goal.invariant-marks
invariant-marks l = l.table ++ map (λ m. m.before) (drop l.mark-index l.marks) ≡ map (λ m. m.before) l.marks
