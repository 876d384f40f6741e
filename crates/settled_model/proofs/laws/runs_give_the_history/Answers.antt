use Rattle.settled_model.proofs.History.{runs_give_the_history}
use Rattle.settled_model.proofs.laws.runs_give_the_history.Goals as goal

pub returns : goal.returns
returns c = runs_give_the_history
