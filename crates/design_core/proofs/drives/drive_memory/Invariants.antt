-- The drives that are left, put to the table, make the whole table.
use Rattle.std.proofs.Common.{◌≡◌, drop, length}
use Rattle.std.specs.List.{flat_map, enumerate_from}
use Rattle.design_core.specs.Drives.{port_drives, put_all}
use Rattle.design_core.proofs.drives.drive_memory.Given as goal

abbrev pub invariant-ports : goal.invariant-ports
invariant-ports l = record {
  rest : put_all (flat_map (λ (r, port). port_drives l.fn.mem.place r port.bits) (enumerate_from l.port (drop l.port l.reads))) l.table ≡ put_all (flat_map (λ (r, port). port_drives l.fn.mem.place r port.bits) (enumerate_from 0 l.reads)) l.initial.table;
  size : length l.table ≡ length l.initial.table;
}
