use Rattle.std.proofs.Common.{◌≡◌, drop}
use Rattle.std.specs.List.{list_all}
use Rattle.emu_machine.specs.Acceptance.{is_register_kept}
use Rattle.shape_check.specs.Mapped.{clocked}
use Rattle.shape_check.proofs.unmapped.ports_kept.Given as goal

abbrev pub invariant-each : goal.invariant-each
invariant-each l = list_all (is_register_kept l.case.results) (clocked (drop l.k l.ports)) ≡ list_all (is_register_kept l.case.results) (clocked l.ports)
