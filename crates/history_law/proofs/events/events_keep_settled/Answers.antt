use Rattle.history_law.proofs.Following.{events_keep_settled}
use Rattle.history_law.proofs.events.events_keep_settled.Goals as goal

pub returns : goal.returns
returns c = events_keep_settled
