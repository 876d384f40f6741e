use Rattle.std.proofs.Common.{refl}
use Rattle.result_files.proofs.schedule_reader.read_slot.Goals as goal
use Rattle.result_files.proofs.ScheduleFaults.{no_actions, no_action}

pub returns-in_default : goal.returns-in_default
returns-in_default c = (refl, refl, no_actions _ c.in_default.ensures.entries)

pub returns-in-Err-Bad : goal.returns-in-Err-Bad
returns-in-Err-Bad c =
    (refl, refl, no_action _ _ _ _ c.in-Some.ensures.entries c.in-Some.ensures.few c.in-Err-Bad.field-0-is c.in-Err-Bad.ensures)
