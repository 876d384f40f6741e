use Rattle.results_law.proofs.Chips.{netlists_back}
use Rattle.results_law.proofs.back.netlists_read_back.Goals as goal

pub returns : goal.returns
returns c = netlists_back
