use Rattle.std.proofs.Common.{◌≡◌, map, take}
use Rattle.elaborator.specs.ReadyCells.{ready_of}
use Rattle.elaborator.proofs.cells.ReadyCells.new.Given as goal

abbrev pub invariant-cells : goal.invariant-cells
invariant-cells l = l.rows ≡ map ready_of (take l.place l.setting.cells)
