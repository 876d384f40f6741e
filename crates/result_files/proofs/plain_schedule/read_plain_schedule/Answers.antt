use Rattle.result_files.proofs.plain_schedule.read_plain_schedule.Goals as goal
use Rattle.result_files.proofs.Schedules.{text_answered, read_plain}

pub returns-clause-says : goal.returns-clause-says
returns-clause-says c = text_answered _ _ _ c.in_ok-tree.ensures c.read_schedule.ensures

pub returns-clause-plain : goal.returns-clause-plain
returns-clause-plain c = read_plain _ _ c.read_schedule.ensures
