-- The drives that are left, put to the table, make the whole table.
use Rattle.std.proofs.Common.{◌≡◌, drop, length}
use Rattle.std.specs.List.{flat_map, enumerate_from}
use Rattle.design_core.specs.Drives.{element_drives, put_all}
use Rattle.design_core.proofs.drives.drive_elements.Given as goal

abbrev pub invariant-elements : goal.invariant-elements
invariant-elements l = record {
  rest : put_all (flat_map (λ (j, e). element_drives j e) (enumerate_from l.place (drop l.place l.elements))) l.table ≡ put_all (flat_map (λ (j, e). element_drives j e) (enumerate_from 0 l.elements)) l.initial.table;
  size : length l.table ≡ length l.initial.table;
}
