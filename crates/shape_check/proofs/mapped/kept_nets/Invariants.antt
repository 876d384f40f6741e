use Rattle.std.proofs.Common.{◌≡◌, false}
use Rattle.std.specs.Prelude.{replicate}
use Rattle.shape_check.proofs.mapped.kept_nets.Given as goal

abbrev pub invariant-blank : goal.invariant-blank
invariant-blank l = l.table ≡ replicate l.counter false
