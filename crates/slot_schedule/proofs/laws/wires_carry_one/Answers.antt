use Rattle.slot_schedule.proofs.Uses.{wires_carry_one}
use Rattle.slot_schedule.proofs.laws.wires_carry_one.Goals as goal

pub returns : goal.returns
returns c = wires_carry_one
