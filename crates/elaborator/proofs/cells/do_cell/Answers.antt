use Rattle.std.proofs.Common.{◌≡◌, ◌∙◌, List, Option, Some, ap, slice_get, subst, sym}
use Rattle.std.specs.Prelude.{option_map}
use Rattle.id_arena.specs.declared.keys.CellId.{CellId}
use Rattle.id_arena.specs.Names.{place_among}
use Rattle.cell_table.specs.declared.cell.Cell.{Cell}
use Rattle.cell_table.specs.Table.{names_of}
use Rattle.flattening.specs.Cells.{cell_deed}
use Rattle.flattening.specs.Flattening.{cell_named, cell_step}
use Rattle.flattening.specs.Pieces.{performed}
use Rattle.flattening.specs.Places.{Given}
use Rattle.elaborator.proofs.CellTies.{known}
use Rattle.elaborator.proofs.Performing.{retold}
use Rattle.elaborator.proofs.cells.do_cell.Goals as goal

pub returns : goal.returns
returns c =
    let g = c.args.setting.now in
    let here = c.args.here.now in
    let inst = c.args.inst.now in
    let name = c.args.name.now in
    let cell = c.cell-cell.result.now in
    let place = c.in-Some.id.place in
    let whole = ap (λ (k : Given). k.cells) c.setting.view_is in
    let found = subst (λ (cs : List Cell). place_among (names_of cs) name ≡ Some place) whole (sym c.find.ensures.place ∙ ap (λ (o : Option CellId). option_map (λ id. id.place) o) c.in-Some.is) in
    let there = subst (λ (cs : List Cell). slice_get cs place ≡ Some cell) whole c.cell-cell.ensures.cell in
    retold (cell_step g here c.args.at inst (cell_named g name)) (λ made. performed c.args.at (cell_deed g here inst cell made) made) c.args.making.now c.do_ready.new.making c.do_ready.result
    (known g here c.args.at inst name c.args.making.now place cell found there) c.do_ready.ensures
