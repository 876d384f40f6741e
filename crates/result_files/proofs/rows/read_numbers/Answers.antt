use Rattle.std.proofs.Common.{rules}
use Rattle.result_files.proofs.rows.read_numbers.Goals as goal
use Rattle.result_files.proofs.Inside.{at_none}
use Rattle.result_files.proofs.RowLemmas.{no_numbers}

pub returns-in_err-read_word-in-len1 : goal.returns-in_err-read_word-in-len1
returns-in_err-read_word-in-len1 c =
    at_none _ _ _ c.from_residual.ensures (no_numbers c.args.trees.now 0 _ (search rules) c.first-item.is c.in_err-read_word-in-len1.ensures)

pub returns-in_err-read_word-in-len2 : goal.returns-in_err-read_word-in-len2
returns-in_err-read_word-in-len2 c =
    at_none _ _ _ c.from_residual-in_err-read_word-in-len2.ensures (no_numbers c.args.trees.now 0 _ (search rules) c.first-item-then-trees-lt3.is c.in_err-read_word-in-len2.ensures)

pub returns-in_err-read_word-in-len2-2 : goal.returns-in_err-read_word-in-len2-2
returns-in_err-read_word-in-len2-2 c =
    at_none _ _ _ c.from_residual-in_err-read_word-in-len2-2.ensures (no_numbers c.args.trees.now 1 _ (search rules) c.second-item.is c.in_err-read_word-in-len2-2.ensures)

pub returns-in_err-read_word-in-len3 : goal.returns-in_err-read_word-in-len3
returns-in_err-read_word-in-len3 c =
    at_none _ _ _ c.from_residual-in_err-read_word-in-len3.ensures (no_numbers c.args.trees.now 0 _ (search rules) c.first-item-then-trees-lt4.is c.in_err-read_word-in-len3.ensures)

pub returns-in_err-read_word-in-len3-2 : goal.returns-in_err-read_word-in-len3-2
returns-in_err-read_word-in-len3-2 c =
    at_none _ _ _ c.from_residual-in_err-read_word-in-len3-2.ensures (no_numbers c.args.trees.now 1 _ (search rules) c.second-item-then-trees-lt4.is c.in_err-read_word-in-len3-2.ensures)

pub returns-in_err-read_word-in-len3-3 : goal.returns-in_err-read_word-in-len3-3
returns-in_err-read_word-in-len3-3 c =
    at_none _ _ _ c.from_residual-in_err-read_word-in-len3-3.ensures (no_numbers c.args.trees.now 2 _ (search rules) c.third-item.is c.in_err-read_word-in-len3-3.ensures)
