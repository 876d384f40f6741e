use Rattle.history_law.proofs.Naming.{driver_is_element}
use Rattle.history_law.proofs.drivers.driver_is_element.Goals as goal

pub returns : goal.returns
returns c = driver_is_element
