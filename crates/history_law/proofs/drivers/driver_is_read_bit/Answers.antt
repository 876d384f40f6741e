use Rattle.history_law.proofs.Naming.{driver_is_read_bit}
use Rattle.history_law.proofs.drivers.driver_is_read_bit.Goals as goal

pub returns : goal.returns
returns c = driver_is_read_bit
