use Rattle.cycle_sim.proofs.JudgedResults.{judged_can_load}
use Rattle.cycle_sim.proofs.laws.judged_can_load.Goals as goal

pub returns : goal.returns
returns c = judged_can_load
