use Rattle.serde_json.specs.View.{view}
use Rattle.result_files.specs.Map.{IsEntryTree}
use Rattle.result_files.proofs.map_reader.entry_in.Goals as goal
use Rattle.result_files.proofs.Refusals.{part_refused}

pub returns-in_err-nets : goal.returns-in_err-nets
returns-in_err-nets c =
    part_refused _ (IsEntryTree (view c.args.tree.now)) _ _ c.from_residual.ensures (λ e is. (e.nets, is.nets)) c.in_err-nets.ensures

pub returns-in_err-kept : goal.returns-in_err-kept
returns-in_err-kept c =
    part_refused _ (IsEntryTree (view c.args.tree.now)) _ _ c.from_residual-in_err-kept.ensures (λ e is. (e.kept, is.registers)) c.in_err-kept.ensures

pub returns-in_err-memories : goal.returns-in_err-memories
returns-in_err-memories c =
    part_refused _ (IsEntryTree (view c.args.tree.now)) _ _ c.from_residual-in_err-memories.ensures (λ e is. (e.memories, is.memories)) c.in_err-memories.ensures
