use Rattle.clock_rank.proofs.Steps.{driver_there}
use Rattle.clock_rank.proofs.needs.add_needs.Goals as goal

pub add_driver_needs-requires-clause-there : goal.add_driver_needs-requires-clause-there
add_driver_needs-requires-clause-there c =
    driver_there c.driver_is_element.ensures c.driver_is_read_bit.ensures c.args.design.now c.in-Net.net.place _ c.driver.ensures
