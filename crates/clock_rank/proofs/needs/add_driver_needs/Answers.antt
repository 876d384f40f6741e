use Rattle.clock_rank.proofs.Steps.{element_added}
use Rattle.clock_rank.proofs.needs.add_driver_needs.Goals as goal

pub returns-in_ok-add_element_needs-in-Elem : goal.returns-in_ok-add_element_needs-in-Elem
returns-in_ok-add_element_needs-in-Elem c =
    element_added c.args.design.now c.args.driver c.in-Elem.id _ c.in-Elem.is c.elem.ensures.here c.args.row.now.items _ c.in_ok-add_element_needs-in-Elem.ensures
