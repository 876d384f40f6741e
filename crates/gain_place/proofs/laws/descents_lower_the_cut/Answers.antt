use Rattle.gain_place.proofs.OneEnd.{lowered}
use Rattle.gain_place.proofs.laws.descents_lower_the_cut.Goals as goal

pub returns : goal.returns
returns c = lowered
