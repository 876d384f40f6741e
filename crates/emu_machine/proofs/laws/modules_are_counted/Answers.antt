use Rattle.emu_machine.proofs.Again.{counted}
use Rattle.emu_machine.proofs.laws.modules_are_counted.Goals as goal

pub returns : goal.returns
returns c = counted
