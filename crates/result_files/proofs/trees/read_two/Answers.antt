use Rattle.result_files.proofs.Inside.{two_read, two_missed}
use Rattle.result_files.proofs.trees.read_two.Goals as goal

pub returns : goal.returns
returns c = two_read _ _ _ c.in_ok-entries.ensures.entries c.two_entries.ensures

pub returns-in_err-entries : goal.returns-in_err-entries
returns-in_err-entries c = two_missed _ _ c.from_residual.ensures c.in_err-entries.ensures.entries
