use Rattle.domain_groups.proofs.OneOpening.{one_answer}
use Rattle.domain_groups.proofs.openings.each_opening_has_one_answer.Goals as goal

pub returns : goal.returns
returns c = one_answer
