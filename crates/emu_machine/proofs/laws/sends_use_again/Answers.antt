use Rattle.emu_machine.proofs.Again.{use_again}
use Rattle.emu_machine.proofs.laws.sends_use_again.Goals as goal

pub returns : goal.returns
returns c = use_again
