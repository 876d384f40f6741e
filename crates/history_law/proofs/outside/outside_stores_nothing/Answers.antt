use Rattle.history_law.proofs.Untouched.{outside_stores_nothing}
use Rattle.history_law.proofs.outside.outside_stores_nothing.Goals as goal

pub returns : goal.returns
returns c = outside_stores_nothing
