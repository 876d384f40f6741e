use Rattle.std.proofs.Common.{take, map}
use Rattle.serde_json.specs.View.{view}
use Rattle.result_files.specs.Lists.{SayEach}
use Rattle.result_files.specs.Printed.{IsNamed, AreAll}
use Rattle.result_files.specs.Schedule.{IsFrameTree}
use Rattle.result_files.proofs.schedule_reader.read_frames.Given as goal

-- what is read is what the trees so far say, and its names are UTF-8
abbrev pub invariant-frames : goal.invariant-frames
invariant-frames l = SayEach IsFrameTree (map view (take l.place l.trees)) l.frames × AreAll IsNamed l.frames
