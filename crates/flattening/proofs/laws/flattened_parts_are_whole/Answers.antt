use Rattle.flattening.proofs.Flattened.{flattened_parts_whole}
use Rattle.flattening.proofs.laws.flattened_parts_are_whole.Goals as goal

pub returns : goal.returns
returns c = flattened_parts_whole
