use Rattle.history_law.proofs.Untouched.{outside_stays}
use Rattle.history_law.proofs.outside.outside_stays.Goals as goal

pub returns : goal.returns
returns c = outside_stays
