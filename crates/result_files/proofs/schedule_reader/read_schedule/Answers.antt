use Rattle.std.proofs.Common.{rules}
use Rattle.result_files.proofs.schedule_reader.read_schedule.Goals as goal
use Rattle.result_files.proofs.ScheduleFaults.{text_answers}

pub returns-clause-says : goal.returns-clause-says
returns-clause-says c = text_answers _ _ _ c.in-Ok.ensures (search rules) c.schedule_in.ensures.says
