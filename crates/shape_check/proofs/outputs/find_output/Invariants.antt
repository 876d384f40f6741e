use Rattle.std.proofs.Common.{[], ◌∷◌}
use Rattle.emu_machine.specs.Acceptance.{FailsA12}
use Rattle.use_check.proofs.Walk.{NoneBefore}
use Rattle.shape_check.proofs.outputs.find_output.Given as goal

abbrev pub invariant-each : goal.invariant-each
invariant-each l = NoneBefore (FailsA12 l.case) (2 ∷ []) l.k
