use Rattle.flattening.proofs.Declared.{declarations_are_told}
use Rattle.flattening.proofs.laws.declarations_are_told.Goals as goal

pub returns : goal.returns
returns c = declarations_are_told
