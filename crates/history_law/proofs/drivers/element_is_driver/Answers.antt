use Rattle.history_law.proofs.Naming.{element_is_driver}
use Rattle.history_law.proofs.drivers.element_is_driver.Goals as goal

pub returns : goal.returns
returns c = element_is_driver
