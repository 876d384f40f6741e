use Rattle.agreement_law.proofs.Runs.{slots_give_agreement}
use Rattle.agreement_law.proofs.agreement.slots_give_agreement.Goals as goal

pub returns : goal.returns
returns c = slots_give_agreement
