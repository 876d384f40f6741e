use Rattle.results_law.proofs.Maps.{maps_back}
use Rattle.results_law.proofs.back.maps_read_back.Goals as goal

pub returns : goal.returns
returns c = maps_back
