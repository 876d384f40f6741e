use Rattle.std.proofs.Common.{take}
use Rattle.std.specs.Prelude.{zip}
use Rattle.std.specs.List.{list_any}
use Rattle.shape_check.specs.Mapped.{AreMarkedAlso, keeps}
use Rattle.shape_check.proofs.mapped.mark_registers.Given as goal

abbrev pub invariant-each : goal.invariant-each
invariant-each l = AreMarkedAlso (λ n. list_any (keeps l.case.results l.chip.place n) (take l.i (zip l.registers l.kept))) l.initial.table l.table
