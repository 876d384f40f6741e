use Rattle.gate_pass.proofs.Unique.{values_are_unique}
use Rattle.gate_pass.proofs.laws.settled_values_are_unique.Goals as goal

pub returns : goal.returns
returns g c = values_are_unique g.T.NetValue.none
