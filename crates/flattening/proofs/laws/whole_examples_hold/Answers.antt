use Rattle.flattening.proofs.WholeWorked.{whole_examples_hold}
use Rattle.flattening.proofs.laws.whole_examples_hold.Goals as goal

pub returns : goal.returns
returns c = whole_examples_hold
