use Rattle.std.proofs.Common.{[], ◌∷◌}
use Rattle.emu_machine.specs.Acceptance.{FailsA9}
use Rattle.use_check.proofs.Walk.{NoneBefore}
use Rattle.shape_check.proofs.unmapped.find_input.Given as goal

abbrev pub invariant-each : goal.invariant-each
invariant-each l = NoneBefore (FailsA9 l.case) (0 ∷ []) l.n
