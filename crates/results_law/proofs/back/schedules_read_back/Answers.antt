use Rattle.results_law.proofs.Schedules.{schedules_back}
use Rattle.results_law.proofs.back.schedules_read_back.Goals as goal

pub returns : goal.returns
returns c = schedules_back
