use Rattle.std.proofs.Common.{◌≡◌}
use Rattle.std.specs.Prelude.{replicate}
use Rattle.shape_check.proofs.mapped.named_memories.Given as goal

abbrev pub invariant-blank : goal.invariant-blank
invariant-blank l = l.table ≡ replicate l.counter 0
