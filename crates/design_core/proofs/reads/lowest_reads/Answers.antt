use Rattle.std.proofs.Common.{◌∙◌}
use Rattle.design_core.specs.Design.{read_reads}
use Rattle.design_core.proofs.Lowest.{one_more}
use Rattle.design_core.proofs.reads.lowest_reads.Goals as goal

pub ports-preserved : goal.ports-preserved
ports-preserved c =
    one_more read_reads c.args.table.now c.args.ports.now c.ports.port-index c.port-item.result c.ports.found c.lowest_read-found.result c.ports-test.true c.port-item.is c.lowest_read-found.ensures
    ∙ c.ports.invariant
