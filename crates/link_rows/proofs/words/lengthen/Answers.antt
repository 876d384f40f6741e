use Rattle.std.proofs.Common.{◌<◌, length, arith}
use Rattle.std.proofs.lemmas.List.{length-map}
use Rattle.link_rows.proofs.Lengths.{lengthened-row, same-row}
use Rattle.link_rows.proofs.words.lengthen.Goals as goal

pub rows-preserved : goal.rows-preserved
rows-preserved c =
    let rows = c.rows.rows in
    let within : c.rows.row < length rows.items = omega (arith, rows.ok.0, c.args.rows.now.ok.0, c.len-row-end.ensures, c.rows.invariant.same.count, length-map rows.items (λ words. words.items), length-map c.args.rows.now.items (λ words. words.items)) in
    lengthened-row (λ words. words.items) _ rows.items c.args.count c.rows.row c.index_mut.result.now c.lengthen_row.new.words within c.index_mut.ensures.value c.rows.invariant c.in_ok-lengthen_row.ensures.ok

pub returns-in_err-lengthen_row-clause-same : goal.returns-in_err-lengthen_row-clause-same
returns-in_err-lengthen_row-clause-same c =
    let rows = c.rows.rows in
    let within : c.rows.row < length rows.items = omega (arith, rows.ok.0, c.args.rows.now.ok.0, c.len-row-end.ensures, c.rows.invariant.same.count, length-map rows.items (λ words. words.items), length-map c.args.rows.now.items (λ words. words.items)) in
    same-row (λ words. words.items) _ rows.items c.rows.row c.rows.row c.index_mut.result.now c.lengthen_row.new.words within c.index_mut.ensures.value c.rows.invariant.same c.in_err-lengthen_row.ensures.err
