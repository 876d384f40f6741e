-- The drives that are left, put to the table, make the whole table.
use Rattle.std.proofs.Common.{◌≡◌, drop, length}
use Rattle.design_core.specs.Drives.{input_drives, put_all}
use Rattle.design_core.proofs.drives.drive_ports.Given as goal

abbrev pub invariant-ports : goal.invariant-ports
invariant-ports l = record {
  rest : put_all (input_drives (drop l.port-index l.ports)) l.table ≡ put_all (input_drives l.ports) l.initial.table;
  size : length l.table ≡ length l.initial.table;
}
