use Rattle.result_files.proofs.plain_schedule.plain_schedules_are_told_apart.Goals as goal
use Rattle.result_files.proofs.Schedules.{one_schedule}

pub returns : goal.returns
returns c = one_schedule
