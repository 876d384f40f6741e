use Rattle.slot_schedule.proofs.Accesses.{memories_are_used_once}
use Rattle.slot_schedule.proofs.laws.memories_are_used_once.Goals as goal

pub returns : goal.returns
returns c = memories_are_used_once c.driver_is_read_bit.ensures
