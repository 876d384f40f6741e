use Rattle.std.proofs.Common.{◌≡◌, ◌∙◌, map, max, arith, ap, Ok, Err, OnErr, Result}
use Rattle.link_rows.specs.BitRows.{widened}
use Rattle.link_rows.specs.Words.{table_of}
use Rattle.link_rows.proofs.Tables.{table-same, table-wider, rectangular-table}
use Rattle.link_rows.proofs.bit_rows.BitRows.widen.Goals as goal

-- what holds anyway holds of a failure
on_err : {T E : Type 0} (P : Type 0) (r : Result T E) → P → OnErr r P
on_err P (Ok x) p = tt
on_err P (Err e) p = p

pub returns-in_err-lengthen-clause-err : goal.returns-in_err-lengthen-clause-err
returns-in_err-lengthen-clause-err c =
    on_err _ c.from_residual.result (table-same c.self.inside.width _ _ c.in_err-lengthen.ensures.same ∙ c.self.view_is)

pub returns-in_err-lengthen-clause-rectangular : goal.returns-in_err-lengthen-clause-rectangular
returns-in_err-lengthen-clause-rectangular c = rectangular-table c.self.inside.width _

pub returns-clause-ok : goal.returns-clause-ok
returns-clause-ok c =
    let rows = map (λ words. words.items) c.lengthen.new.rows.items in
    let wide : c.max-self-inside.result ≡ max c.args.width c.self.inside.width = omega (arith, c.max-self-inside.ensures) in
    ap (λ width. table_of width rows) wide
    ∙ table-wider c.self.inside.width c.args.width _ _ c.self.invariant c.in_ok-lengthen.ensures.same
    ∙ ap (λ table. widened table c.args.width) c.self.view_is

pub returns-clause-rectangular : goal.returns-clause-rectangular
returns-clause-rectangular c = rectangular-table c.max-self-inside.result _
