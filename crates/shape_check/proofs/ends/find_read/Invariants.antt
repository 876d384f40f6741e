use Rattle.std.proofs.Common.{[], ◌∷◌}
use Rattle.shape_check.specs.Ends.{ReadFails}
use Rattle.use_check.proofs.Walk.{NoneBefore}
use Rattle.shape_check.proofs.ends.find_read.Given as goal

abbrev pub invariant-each : goal.invariant-each
invariant-each l = NoneBefore (ReadFails l.end) (l.end.frame ∷ l.chip.place ∷ 1 ∷ l.mem.place ∷ []) l.j
