use Rattle.domain_groups.proofs.FittingEvents.{events_fit}
use Rattle.domain_groups.proofs.events.recorded_events_fit.Goals as goal

pub returns : goal.returns
returns c = events_fit
