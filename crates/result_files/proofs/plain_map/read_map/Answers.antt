use Rattle.serde_json.specs.View.{view}
use Rattle.result_files.specs.PlainMap.{IsMapTree}
use Rattle.result_files.proofs.plain_map.read_map.Goals as goal
use Rattle.result_files.proofs.Maps.{entry_said}
use Rattle.result_files.proofs.Refusals.{part_refused}

pub returns-in_err-entry : goal.returns-in_err-entry
returns-in_err-entry c =
    part_refused _ (IsMapTree (view c.args.tree.now)) _ _ c.from_residual.ensures (entry_said _ _ c.in-Some.ensures) c.in_err-entry.ensures

pub returns-in_err-outputs : goal.returns-in_err-outputs
returns-in_err-outputs c =
    part_refused _ (IsMapTree (view c.args.tree.now)) _ _ c.from_residual-in_err-outputs.ensures (λ m is. (m.outputs, is.outputs)) c.in_err-outputs.ensures
