use Rattle.gain_place.proofs.Rooms.{kept}
use Rattle.gain_place.proofs.laws.descents_keep_rooms.Goals as goal

pub returns : goal.returns
returns c = kept
