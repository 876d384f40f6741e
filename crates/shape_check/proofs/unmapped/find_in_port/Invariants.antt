use Rattle.std.proofs.Common.{◌+◌}
use Rattle.shape_check.specs.Mapped.{NoOutputBefore}
use Rattle.shape_check.proofs.unmapped.find_in_port.Given as goal

abbrev pub invariant-each : goal.invariant-each
invariant-each l = NoOutputBefore l.case (l.start + l.i)
