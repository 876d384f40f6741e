use Rattle.settled_model.proofs.History.{runs_grow}
use Rattle.settled_model.proofs.laws.runs_grow.Goals as goal

pub returns : goal.returns
returns c = runs_grow
