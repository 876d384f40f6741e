use Rattle.serde_json.specs.View.{view}
use Rattle.result_files.specs.Lists.{SaysNone}
use Rattle.result_files.proofs.told.read_told.Goals as goal
use Rattle.result_files.proofs.Entries.{say_next, bad_at}
use Rattle.result_files.proofs.ScheduleFaults.{none_said}

pub returns-in-Err-NotYet : goal.returns-in-Err-NotYet
returns-in-Err-NotYet g c =
    bad_at g.T.Told.Says (SaysNone g.T.Told.Says) _ _ _ _ c.entries-test.true c.index-trees-place.is c.entries.invariant
    (none_said (g.T.Told.Says (view c.index-trees-place.result)) _ c.in-Err-NotYet.field-0-is c.in-Err-NotYet.ensures)

pub entries-preserved : goal.entries-preserved
entries-preserved g c =
    rw c.in_ok-push-in-Ok.ensures.ok
    (say_next g.T.Told.Says _ _ _ _ _ c.entries-test.true c.index-trees-place.is c.entries.invariant c.in-Ok.ensures)
