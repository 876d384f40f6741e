use Rattle.serde_json.specs.View.{view}
use Rattle.std.specs.Prelude.{map}
use Rattle.result_files.specs.Lists.{SayEach}
use Rattle.result_files.specs.Schedule.{IsFrameTree}
use Rattle.result_files.specs.Printed.{IsNamed}
use Rattle.result_files.specs.Readers.{BadFrameAt, BadFrames}
use Rattle.result_files.proofs.schedule_reader.read_frames.Goals as goal
use Rattle.result_files.proofs.Entries.{all_more, say_next}
use Rattle.result_files.proofs.ScheduleFaults.{passed_on, frame_bad}

pub returns-in_err-frame-clause-says : goal.returns-in_err-frame-clause-says
returns-in_err-frame-clause-says c =
    passed_on (IsFrameTree (view c.index-trees-place.result)) (BadFrameAt (view c.index-trees-place.result) c.frames.place)
    (SayEach IsFrameTree (map view c.args.trees.now)) (BadFrames (map view c.args.trees.now)) _ _ c.from_residual.ensures
    (frame_bad _ _ _ _ c.frames-test.true c.index-trees-place.is c.frames.invariant.0) c.in_err-frame.ensures.says

pub frames-preserved : goal.frames-preserved
frames-preserved c =
    rw c.in_ok-push.ensures.ok (
      say_next IsFrameTree _ _ _ _ _ c.frames-test.true c.index-trees-place.is c.frames.invariant.0 c.in_ok-frame.ensures.says,
      all_more IsNamed _ _ c.frames.invariant.1 c.in_ok-frame.ensures.named,
    )
