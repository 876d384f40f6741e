use Rattle.history_law.proofs.Naming.{read_bit_is_driver}
use Rattle.history_law.proofs.drivers.read_bit_is_driver.Goals as goal

pub returns : goal.returns
returns c = read_bit_is_driver
