use Rattle.slot_schedule.proofs.Uses.{values_are_ready}
use Rattle.slot_schedule.proofs.laws.values_are_ready.Goals as goal

pub returns : goal.returns
returns c = values_are_ready
