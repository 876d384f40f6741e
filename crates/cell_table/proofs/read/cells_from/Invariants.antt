use Rattle.std.proofs.Common.{◌≡◌, map, take, length}
use Rattle.serde_json.specs.View.{view}
use Rattle.cell_table.specs.Sound.{AreSound}
use Rattle.cell_table.specs.Table.{IsTable, names_of}
use Rattle.cell_table.proofs.read.cells_from.Given as goal

abbrev pub invariant-loop-value : goal.invariant-loop-value
invariant-loop-value l = record {
  table : IsTable l.version (take l.value-index (map view l.values)) l.cells;
  named : l.names ≡ names_of l.cells;
  count : length l.cells ≡ l.value-index;
  sound : AreSound l.cells;
}
