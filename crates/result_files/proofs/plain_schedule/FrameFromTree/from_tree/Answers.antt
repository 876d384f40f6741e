use Rattle.serde_json.specs.View.{view}
use Rattle.result_files.specs.PlainSchedule.{IsFrameTree}
use Rattle.result_files.proofs.plain_schedule.FrameFromTree.from_tree.Goals as goal
use Rattle.result_files.proofs.Refusals.{part_refused}

pub returns-in_err-slots : goal.returns-in_err-slots
returns-in_err-slots c =
    part_refused _ (IsFrameTree (view c.args.tree.now)) _ _ c.from_residual.ensures (λ f is. (f.slots, is.slots)) c.in_err-slots.ensures
