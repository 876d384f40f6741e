use Rattle.std.proofs.Common.{◌∙◌, ap}
use Rattle.link_rows.specs.Words.{table_of}
use Rattle.link_rows.proofs.Tables.{table-clear, rectangular-table}
use Rattle.link_rows.proofs.bit_rows.BitRows.new.Goals as goal

pub returns-clause-clear : goal.returns-clause-clear
returns-clause-clear c = ap (table_of c.args.width) c.in_ok-rows.ensures ∙ table-clear c.args.rows c.args.width c.word_count.result

pub returns-clause-rectangular : goal.returns-clause-rectangular
returns-clause-rectangular c = rectangular-table c.args.width _
