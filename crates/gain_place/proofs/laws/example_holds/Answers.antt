use Rattle.gain_place.proofs.Example.{example_holds}
use Rattle.gain_place.proofs.laws.example_holds.Goals as goal

pub returns : goal.returns
returns c = example_holds
