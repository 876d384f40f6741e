use Rattle.std.proofs.Common.{take}
use Rattle.std.specs.Prelude.{sum_by}
use Rattle.shape_check.specs.Mapped.{AreCountedAlso, names}
use Rattle.shape_check.proofs.mapped.count_chips.Given as goal

abbrev pub invariant-each : goal.invariant-each
invariant-each l = AreCountedAlso (λ m. sum_by (λ entry. names m entry.memories) (take l.entry-index l.case.results.map.chips)) l.initial.table l.table
