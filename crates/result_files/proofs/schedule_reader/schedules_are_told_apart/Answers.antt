use Rattle.result_files.proofs.schedule_reader.schedules_are_told_apart.Goals as goal
use Rattle.result_files.proofs.OneResult.{one_schedule_said}

pub returns : goal.returns
returns c = one_schedule_said
