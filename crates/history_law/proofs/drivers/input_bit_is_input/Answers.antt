use Rattle.history_law.proofs.Naming.{input_bit_is_input}
use Rattle.history_law.proofs.drivers.input_bit_is_input.Goals as goal

pub returns : goal.returns
returns c = input_bit_is_input
