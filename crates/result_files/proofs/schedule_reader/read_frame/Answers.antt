use Rattle.std.proofs.Common.{refl}
use Rattle.std.specs.Prelude.{map}
use Rattle.serde_json.specs.View.{view}
use Rattle.result_files.specs.Lists.{SayEach}
use Rattle.result_files.specs.Schedule.{IsSlotTree, IsFrameTree}
use Rattle.result_files.specs.Readers.{BadSlots, BadFrameAt}
use Rattle.result_files.proofs.schedule_reader.read_frame.Goals as goal
use Rattle.result_files.proofs.ScheduleFaults.{passed_on, no_frame, slots_bad, frame_parts}

pub returns-in_default-clause-says : goal.returns-in_default-clause-says
returns-in_default-clause-says c = (refl, no_frame _ c.in_default.ensures.slots)

pub returns-in_err-slots-clause-says : goal.returns-in_err-slots-clause-says
returns-in_err-slots-clause-says c =
    passed_on (SayEach IsSlotTree (map view c.in-Some.slots.now)) (BadSlots (map view c.in-Some.slots.now) c.args.frame)
    (IsFrameTree (view c.args.tree.now)) (BadFrameAt (view c.args.tree.now) c.args.frame) _ _ c.from_residual.ensures
    (slots_bad _ _ _ (frame_parts _ c.in-Some.name.now _ c.in-Some.ensures.slots)) c.in_err-slots.ensures
