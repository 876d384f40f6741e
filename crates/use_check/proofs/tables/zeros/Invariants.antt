use Rattle.std.proofs.Common.{◌≡◌, replicate}
use Rattle.use_check.proofs.tables.zeros.Given as goal

abbrev pub invariant-each : goal.invariant-each
invariant-each l = l.numbers ≡ replicate l.counter 0
