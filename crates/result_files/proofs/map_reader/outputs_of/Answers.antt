use Rattle.std.specs.Prelude.{codes}
use Rattle.serde_json.specs.View.{view}
use Rattle.result_files.specs.Lists.{HasList}
use Rattle.result_files.specs.Map.{IsSpotTree, AreThere}
use Rattle.result_files.proofs.map_reader.outputs_of.Goals as goal
use Rattle.result_files.proofs.MapLemmas.{outputs_refused}
use Rattle.result_files.proofs.Refusals.{part_refused}

pub returns-in_err-outputs : goal.returns-in_err-outputs
returns-in_err-outputs c =
    part_refused _ (λ outputs. HasList (codes "outputs") IsSpotTree (view c.args.tree.now) outputs × AreThere c.args.chips.now outputs) _ _ c.from_residual.ensures (λ outputs is. (outputs, is.0)) c.in_err-outputs.ensures

pub returns-else-are_there : goal.returns-else-are_there
returns-else-are_there c =
    outputs_refused _ _ c.in_ok-outputs.outputs _ _ c.as_slice.ensures c.in_ok-outputs.ensures c.if-are_there.false c.are_there.ensures
