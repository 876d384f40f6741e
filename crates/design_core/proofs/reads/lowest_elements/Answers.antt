use Rattle.std.proofs.Common.{◌∙◌}
use Rattle.design_core.specs.Design.{element_reads}
use Rattle.design_core.proofs.Lowest.{one_more}
use Rattle.design_core.proofs.reads.lowest_elements.Goals as goal

pub elements-preserved : goal.elements-preserved
elements-preserved c =
    one_more (element_reads) c.args.table.now c.args.elements.now c.elements.element-index c.element-item.result c.elements.found c.lowest_element-found.result c.elements-test.true c.element-item.is c.lowest_element-found.ensures
    ∙ c.elements.invariant
