use Rattle.result_files.proofs.map_reader.maps_are_told_apart.Goals as goal
use Rattle.result_files.proofs.OneResult.{one_map_said}

pub returns : goal.returns
returns c = one_map_said
