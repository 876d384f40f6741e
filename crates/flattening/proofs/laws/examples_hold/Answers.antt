use Rattle.flattening.proofs.Worked.{examples_hold}
use Rattle.flattening.proofs.laws.examples_hold.Goals as goal

pub returns : goal.returns
returns c = examples_hold
