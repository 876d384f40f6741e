use Rattle.one_history.proofs.Alone.{one_history}
use Rattle.one_history.proofs.histories.one_history.Goals as goal

pub returns : goal.returns
returns c = one_history
