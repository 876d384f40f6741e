use Rattle.std.proofs.Common.{take}
use Rattle.std.specs.List.{enumerate_from, list_any}
use Rattle.emu_machine.specs.Acceptance.{chip_keeps}
use Rattle.shape_check.specs.Mapped.{AreMarkedAlso, net}
use Rattle.shape_check.proofs.mapped.mark_chips.Given as goal

abbrev pub invariant-each : goal.invariant-each
invariant-each l = AreMarkedAlso (λ n. list_any (λ (k, chip). chip_keeps l.case.results (net n) k) (take l.k (enumerate_from 0 l.case.results.net))) l.initial.table l.table
