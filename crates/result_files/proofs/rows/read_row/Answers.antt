use Rattle.std.proofs.Common.{rules, ◌∷◌}
use Rattle.std.specs.Prelude.{map}
use Rattle.serde_json.specs.Data.{string}
use Rattle.result_files.specs.Trees.{whole}
use Rattle.result_files.proofs.rows.read_row.Goals as goal
use Rattle.result_files.proofs.Inside.{at_none}
use Rattle.result_files.proofs.RowLemmas.{row_is_few, row_rest}

pub returns-in_err-entries : goal.returns-in_err-entries
returns-in_err-entries c =
    at_none _ _ _ c.from_residual.ensures (λ row short is. c.in_err-entries.ensures.entries (string row.0 ∷ map whole row.1) (row_is_few row short) is.tree_is)

pub returns-in_err-numbers : goal.returns-in_err-numbers
returns-in_err-numbers c =
    at_none _ _ _ c.from_residual-in_err-numbers.ensures
    (λ row short is. c.in_err-numbers.ensures row.1 short.some short.few is.fit
    (row_rest _ c.in_ok-entries.entries.now c.in_ok-name.name.now c.in_ok-name.numbers.now row c.in_ok-entries.ensures.entries (search rules) is))
