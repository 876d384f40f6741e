use Rattle.serde_json.specs.View.{view}
use Rattle.result_files.specs.Map.{IsMemoryTree}
use Rattle.result_files.proofs.map_reader.MemMapTold.told.Goals as goal
use Rattle.result_files.proofs.Refusals.{part_refused}

pub returns-in_err-kept : goal.returns-in_err-kept
returns-in_err-kept c =
    part_refused _ (IsMemoryTree (view c.args.tree.now)) _ _ c.from_residual.ensures (λ m is. (m.kept, is.reads)) c.in_err-kept.ensures
