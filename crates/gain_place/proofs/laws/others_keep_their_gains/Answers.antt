use Rattle.gain_place.proofs.Staying.{others_keep}
use Rattle.gain_place.proofs.laws.others_keep_their_gains.Goals as goal

pub returns : goal.returns
returns c = others_keep c.driver_is_element.ensures
