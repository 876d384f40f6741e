use Rattle.serde_json.specs.View.{view}
use Rattle.result_files.specs.PlainSchedule.{IsScheduleTree}
use Rattle.result_files.proofs.plain_schedule.read_schedule.Goals as goal
use Rattle.result_files.proofs.Refusals.{part_refused}

pub returns-in_err-frames : goal.returns-in_err-frames
returns-in_err-frames c =
    part_refused _ (IsScheduleTree (view c.args.tree.now)) _ _ c.from_residual.ensures (λ s is. (s.frames, is.frames)) c.in_err-frames.ensures
