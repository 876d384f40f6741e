use Rattle.domain_groups.proofs.OneRecording.{one_answer}
use Rattle.domain_groups.proofs.events.each_recording_has_one_answer.Goals as goal

pub returns : goal.returns
returns c = one_answer
