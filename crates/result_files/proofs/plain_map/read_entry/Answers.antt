use Rattle.serde_json.specs.View.{view}
use Rattle.result_files.specs.PlainMap.{IsEntryTree}
use Rattle.result_files.proofs.plain_map.read_entry.Goals as goal
use Rattle.result_files.proofs.Refusals.{part_refused}

pub returns-in_err-nets : goal.returns-in_err-nets
returns-in_err-nets c =
    part_refused _ (IsEntryTree (view c.args.chip.now)) _ _ c.from_residual.ensures (λ e is. (e.nets, is.nets)) c.in_err-nets.ensures

pub returns-in_err-kept : goal.returns-in_err-kept
returns-in_err-kept c =
    part_refused _ (IsEntryTree (view c.args.chip.now)) _ _ c.from_residual-in_err-kept.ensures (λ e is. (e.kept, is.registers)) c.in_err-kept.ensures
