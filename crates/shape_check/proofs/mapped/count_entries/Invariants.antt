use Rattle.std.proofs.Common.{take}
use Rattle.shape_check.specs.Mapped.{AreCountedAlso, names}
use Rattle.shape_check.proofs.mapped.count_entries.Given as goal

abbrev pub invariant-each : goal.invariant-each
invariant-each l = AreCountedAlso (λ m. names m (take l.entry-index l.entries)) l.initial.table l.table
