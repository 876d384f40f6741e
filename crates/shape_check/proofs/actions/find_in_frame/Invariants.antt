use Rattle.std.proofs.Common.{[], ◌∷◌}
use Rattle.shape_check.specs.Actions.{FailsTest}
use Rattle.use_check.proofs.Walk.{NoneBefore}
use Rattle.shape_check.proofs.actions.find_in_frame.Given as goal

abbrev pub invariant-each : goal.invariant-each
invariant-each l = NoneBefore (FailsTest l.case l.test) (l.frame ∷ []) l.t
