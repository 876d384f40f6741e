-- The drives that are left, put to the table, make the whole table.
use Rattle.std.proofs.Common.{◌≡◌, drop, length, map}
use Rattle.design_core.specs.declared.element.Driver.TheVariants.{Input}
use Rattle.design_core.specs.Drives.{drive_of, put_all}
use Rattle.design_core.proofs.drives.drive_inputs.Given as goal

abbrev pub invariant-nets : goal.invariant-nets
invariant-nets l = record {
  rest : put_all (map (drive_of Input) (drop l.net-index l.nets)) l.table ≡ put_all (map (drive_of Input) l.nets) l.initial.table;
  size : length l.table ≡ length l.initial.table;
}
