use Rattle.results_law.proofs.Whole.{results_back}
use Rattle.results_law.proofs.back.results_read_back.Goals as goal

pub returns : goal.returns
returns c = results_back
