use Rattle.emu_machine.proofs.Again.{use_twice}
use Rattle.emu_machine.proofs.laws.sends_use_twice.Goals as goal

pub returns : goal.returns
returns c = use_twice
