use Rattle.history_law.proofs.Naming.{input_is_input_bit}
use Rattle.history_law.proofs.drivers.input_is_input_bit.Goals as goal

pub returns : goal.returns
returns c = input_is_input_bit
