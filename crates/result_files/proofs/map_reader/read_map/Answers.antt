use Rattle.result_files.proofs.map_reader.read_map.Goals as goal
use Rattle.result_files.proofs.MapLemmas.{map_text_answers}

pub returns : goal.returns
returns c = map_text_answers _ _ _ _ _ c.in-Ok.ensures c.in-Some.ensures c.map_in.ensures
