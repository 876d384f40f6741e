use Rattle.std.proofs.Common.{◌≡◌, drop}
use Rattle.std.specs.List.{list_all}
use Rattle.emu_machine.specs.Acceptance.{is_register_kept}
use Rattle.shape_check.proofs.unmapped.nets_kept.Given as goal

abbrev pub invariant-each : goal.invariant-each
invariant-each l = list_all (is_register_kept l.case.results) (drop l.k l.nets) ≡ list_all (is_register_kept l.case.results) l.nets
