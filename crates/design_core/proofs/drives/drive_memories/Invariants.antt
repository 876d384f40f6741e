-- The drives that are left, put to the table, make the whole table.
use Rattle.std.proofs.Common.{◌≡◌, drop, length}
use Rattle.std.specs.List.{flat_map, enumerate_from}
use Rattle.design_core.specs.Drives.{memory_drives, put_all}
use Rattle.design_core.proofs.drives.drive_memories.Given as goal

abbrev pub invariant-memories : goal.invariant-memories
invariant-memories l = record {
  rest : put_all (flat_map (λ (m, memory). memory_drives m memory) (enumerate_from l.place (drop l.place l.memories))) l.table ≡ put_all (flat_map (λ (m, memory). memory_drives m memory) (enumerate_from 0 l.memories)) l.initial.table;
  size : length l.table ≡ length l.initial.table;
}
