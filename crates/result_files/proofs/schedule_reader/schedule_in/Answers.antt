use Rattle.std.specs.Prelude.{map}
use Rattle.serde_json.specs.View.{view}
use Rattle.result_files.specs.Lists.{SayEach}
use Rattle.result_files.specs.Schedule.{IsFrameTree, IsScheduleTree, IsBadSchedule}
use Rattle.result_files.specs.Readers.{BadFrames}
use Rattle.result_files.proofs.schedule_reader.schedule_in.Goals as goal
use Rattle.result_files.proofs.ScheduleFaults.{passed_on, no_schedule, frames_bad}

pub returns-in_default-clause-says : goal.returns-in_default-clause-says
returns-in_default-clause-says c = no_schedule _ c.in_default.ensures.frames

pub returns-in_err-frames-clause-says : goal.returns-in_err-frames-clause-says
returns-in_err-frames-clause-says c =
    passed_on (SayEach IsFrameTree (map view c.in-Some.frames.now)) (BadFrames (map view c.in-Some.frames.now))
    (IsScheduleTree (view c.args.tree.now)) (IsBadSchedule (view c.args.tree.now)) _ _ c.from_residual.ensures
    (frames_bad _ _ c.in-Some.ensures.frames) c.in_err-frames.ensures.says
