use Rattle.std.proofs.Common.{◌≡◌, drop}
use Rattle.shape_check.specs.Ports.{old_bits}
use Rattle.shape_check.proofs.memories.are_old.Given as goal

abbrev pub invariant-each : goal.invariant-each
invariant-each l = old_bits l.case.results l.chip.place l.of l.number l.bit (drop l.bit l.nets) ≡ old_bits l.case.results l.chip.place l.of l.number 0 l.nets
