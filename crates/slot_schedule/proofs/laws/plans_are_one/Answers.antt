use Rattle.slot_schedule.proofs.Plans.{plans_are_one}
use Rattle.slot_schedule.proofs.laws.plans_are_one.Goals as goal

pub returns : goal.returns
returns c = plans_are_one c.orders_are_sorted.ensures
