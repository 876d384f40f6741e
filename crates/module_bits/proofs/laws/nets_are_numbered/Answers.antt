use Rattle.module_bits.proofs.Numbered.{nets_numbered}
use Rattle.module_bits.proofs.laws.nets_are_numbered.Goals as goal

pub returns : goal.returns
returns c = nets_numbered
