use Rattle.std.proofs.Common.{◌≡◌, ◌<◌, ◌+◌, [], ◌∷◌, ◌++◌, List, map, take, length, sym, ap, subst, ◌∙◌, arith, Some, None, option_map, length-append}
use Rattle.std.specs.Prelude.{slice_get}
use Rattle.std.proofs.lemmas.Option.{slice_get-map, slice_get-get_or}
use Rattle.serde_json.specs.View.{view}
use Rattle.cell_table.specs.Faults.{cell_fault}
use Rattle.cell_table.specs.Sound.{AreSound}
use Rattle.cell_table.specs.Table.{IsTable, names_of}
use Rattle.cell_table.specs.declared.cell.Cell.{Cell}
use Rattle.cell_table.proofs.SoundLemmas.{AreSound-push}
use Rattle.cell_table.proofs.TableLemmas.{IsTable-more}
use Rattle.cell_table.proofs.read.cells_from.Goals as goal

pub loop-value-preserved : goal.loop-value-preserved
loop-value-preserved c =
    let values = c.args.values.now in
    let ds = map view values in
    let i = c.loop-value.value-index in
    let value = c.value-item.result in
    let within : i < length values = omega arith in
    let there : slice_get ds i ≡ Some (view value) =
    slice_get-map view values i ∙ ap (option_map view) (slice_get-get_or values i value within ∙ ap Some (sym c.value-item.is)) in
    let sound : cell_fault c.args.version (names_of c.loop-value.cells) (view value) ≡ None =
    ap (λ names. cell_fault c.args.version names (view value)) (sym c.loop-value.invariant.named) ∙ c.in_ok-cell.ensures.judged in
    let more : AreSound (c.loop-value.cells ++ c.in_ok-cell.cell ∷ []) = AreSound-push c.loop-value.cells c.in_ok-cell.cell c.loop-value.invariant.sound c.in_ok-cell.ensures.sound in
    let P : List Cell → Type 0 = λ cells. IsTable c.args.version (take (i + 1) ds) cells in
    record {
      table = subst P (sym c.in_ok-keep.ensures.cells)
          (IsTable-more c.args.version ds c.loop-value.cells i (view value) c.in_ok-cell.cell c.loop-value.invariant.table c.loop-value.invariant.count there sound c.in_ok-cell.ensures.cell);
      named = c.in_ok-keep.ensures.names;
      count = rw (c.in_ok-keep.ensures.cells, length-append) (ap (λ n. n + 1) c.loop-value.invariant.count);
      sound = rw c.in_ok-keep.ensures.cells more;
    }
