use Rattle.result_files.proofs.Inside.{four_read, four_missed}
use Rattle.result_files.proofs.trees.read_four.Goals as goal

pub returns : goal.returns
returns c = four_read _ _ _ c.in_ok-entries.ensures.entries c.four_entries.ensures

pub returns-in_err-entries : goal.returns-in_err-entries
returns-in_err-entries c = four_missed _ _ c.from_residual.ensures c.in_err-entries.ensures.entries
