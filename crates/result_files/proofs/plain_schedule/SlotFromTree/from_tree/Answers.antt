use Rattle.serde_json.specs.View.{view}
use Rattle.result_files.specs.PlainSchedule.{IsSlotTree}
use Rattle.result_files.proofs.plain_schedule.SlotFromTree.from_tree.Goals as goal
use Rattle.result_files.proofs.Refusals.{part_refused}

pub returns-in_err-actions : goal.returns-in_err-actions
returns-in_err-actions c =
    part_refused _ (IsSlotTree (view c.args.tree.now)) _ _ c.from_residual.ensures (λ s is. (s.actions, is)) c.in_err-actions.ensures
