use Rattle.gain_place.proofs.OneEnd.{one_end}
use Rattle.gain_place.proofs.laws.each_start_has_one_end.Goals as goal

pub returns : goal.returns
returns c = one_end
