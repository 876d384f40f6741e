use Rattle.serde_json.specs.View.{view}
use Rattle.std.specs.Prelude.{map}
use Rattle.result_files.specs.Lists.{SayEach}
use Rattle.result_files.specs.Schedule.{IsSlotTree}
use Rattle.result_files.specs.Readers.{BadSlotAt, BadSlots}
use Rattle.result_files.proofs.schedule_reader.read_slots.Goals as goal
use Rattle.result_files.proofs.Entries.{say_next}
use Rattle.result_files.proofs.ScheduleFaults.{passed_on, slot_bad}

pub returns-in_err-slot : goal.returns-in_err-slot
returns-in_err-slot c =
    passed_on (IsSlotTree (view c.index-trees-place.result)) (BadSlotAt (view c.index-trees-place.result) c.args.frame c.slots.place)
    (SayEach IsSlotTree (map view c.args.trees.now)) (BadSlots (map view c.args.trees.now) c.args.frame) _ _ c.from_residual.ensures
    (slot_bad _ _ _ _ _ c.slots-test.true c.index-trees-place.is c.slots.invariant) c.in_err-slot.ensures

pub slots-preserved : goal.slots-preserved
slots-preserved c =
    rw c.in_ok-push.ensures.ok
    (say_next IsSlotTree _ _ _ _ _ c.slots-test.true c.index-trees-place.is c.slots.invariant c.in_ok-slot.ensures)
