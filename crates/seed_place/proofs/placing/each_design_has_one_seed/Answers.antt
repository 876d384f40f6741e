use Rattle.seed_place.proofs.OneSeed.{one_seed}
use Rattle.seed_place.proofs.placing.each_design_has_one_seed.Goals as goal

pub returns : goal.returns
returns c = one_seed
