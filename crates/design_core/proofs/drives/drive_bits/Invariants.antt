-- The drives that are left, put to the table, make the whole table.
use Rattle.std.proofs.Common.{◌≡◌, drop, length, map}
use Rattle.std.specs.List.{enumerate_from}
use Rattle.design_core.specs.declared.element.Driver.TheVariants.{Read}
use Rattle.design_core.specs.Drives.{drive_of, put_all}
use Rattle.design_core.proofs.drives.drive_bits.Given as goal

abbrev pub invariant-bits : goal.invariant-bits
invariant-bits l = record {
  rest : put_all (map (λ (b, n). drive_of (Read l.mem l.port b) n) (enumerate_from l.bit (drop l.bit l.bits))) l.table ≡ put_all (map (λ (b, n). drive_of (Read l.mem l.port b) n) (enumerate_from 0 l.bits)) l.initial.table;
  size : length l.table ≡ length l.initial.table;
}
