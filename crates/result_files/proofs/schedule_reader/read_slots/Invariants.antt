use Rattle.std.proofs.Common.{take, map}
use Rattle.serde_json.specs.View.{view}
use Rattle.result_files.specs.Lists.{SayEach}
use Rattle.result_files.specs.Schedule.{IsSlotTree}
use Rattle.result_files.proofs.schedule_reader.read_slots.Given as goal

-- what is read is what the trees so far say
abbrev pub invariant-slots : goal.invariant-slots
invariant-slots l = SayEach IsSlotTree (map view (take l.place l.trees)) l.slots
