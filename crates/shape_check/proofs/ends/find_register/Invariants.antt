use Rattle.std.proofs.Common.{[], ◌∷◌}
use Rattle.shape_check.specs.Ends.{EndFails}
use Rattle.use_check.proofs.Walk.{NoneBefore}
use Rattle.shape_check.proofs.ends.find_register.Given as goal

abbrev pub invariant-each : goal.invariant-each
invariant-each l = NoneBefore (EndFails l.end) (l.end.frame ∷ l.chip.place ∷ 0 ∷ []) l.k
