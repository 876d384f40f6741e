use Rattle.cycle_sim.proofs.JudgedResults.{judged_can_run}
use Rattle.cycle_sim.proofs.laws.judged_can_run.Goals as goal

pub returns : goal.returns
returns c = judged_can_run
