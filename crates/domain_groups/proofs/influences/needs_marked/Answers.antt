use Rattle.std.proofs.Common.{ap, ◌∙◌}
use Rattle.design_core.specs.declared.parts.Parts.{Parts}
use Rattle.design_core.specs.Design.{driver}
use Rattle.domain_groups.proofs.Spreading.{driver_there}
use Rattle.domain_groups.proofs.influences.needs_marked.Goals as goal

pub driver_marked-requires-clause-there : goal.driver_marked-requires-clause-there
driver_marked-requires-clause-there c =
    driver_there c.driver_is_element.ensures c.driver_is_read_bit.ensures c.args.ranked.now.design c.in-Net.net.place _
    (c.driver.ensures ∙ ap (λ (p : Parts). driver p c.in-Net.net.place) c.design.ensures)
