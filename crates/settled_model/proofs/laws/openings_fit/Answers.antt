use Rattle.settled_model.proofs.History.{openings_fit}
use Rattle.settled_model.proofs.laws.openings_fit.Goals as goal

pub returns : goal.returns
returns c = openings_fit
