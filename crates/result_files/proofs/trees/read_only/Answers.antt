use Rattle.result_files.proofs.Inside.{only_read, only_missed}
use Rattle.result_files.proofs.trees.read_only.Goals as goal

pub returns : goal.returns
returns c = only_read _ _ _ c.in_ok-entries.ensures.entries c.only_entry.ensures

pub returns-in_err-entries : goal.returns-in_err-entries
returns-in_err-entries c = only_missed _ _ c.from_residual.ensures c.in_err-entries.ensures.entries
