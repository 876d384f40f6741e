use Rattle.std.proofs.Common.{◌≡◌, ℕ, List, Some, ap, slice_get, subst}
use Rattle.id_arena.specs.declared.keys.CellId.{CellId}
use Rattle.cell_table.specs.declared.cell.Cell.{Cell}
use Rattle.flattening.specs.Places.{Given}
use Rattle.elaborator.proofs.CellTies.{row_more}
use Rattle.elaborator.proofs.cells.ReadyCells.new.Goals as goal

pub cells-preserved : goal.cells-preserved
cells-preserved c =
    let whole = ap (λ (k : Given). k.cells) c.setting.view_is in
    let first = subst (λ (cs : List Cell). slice_get cs c.of.result.place ≡ Some c.cell-cell.result.now) whole c.cell-cell.ensures.cell in
    let there = subst (λ (p : ℕ). slice_get c.args.setting.now.cells p ≡ Some c.cell-cell.result.now) (ap (λ (id : CellId). id.place) c.of.ensures) first in
    row_more c.args.setting.now.cells c.cells.rows c.push.new.self c.cells.place c.cell-cell.result.now c.in_ok-make_ready.field-0 c.in_ok-push.ensures.ok c.cells.invariant there c.in_ok-make_ready.ensures
