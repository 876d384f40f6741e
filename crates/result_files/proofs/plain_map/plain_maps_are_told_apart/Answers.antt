use Rattle.result_files.proofs.plain_map.plain_maps_are_told_apart.Goals as goal
use Rattle.result_files.proofs.Maps.{one_said}

pub returns : goal.returns
returns c = one_said
