use Rattle.emu_machine.proofs.Entries.{all_mapped}
use Rattle.emu_machine.proofs.laws.all_are_mapped.Goals as goal

pub returns : goal.returns
returns c = all_mapped
