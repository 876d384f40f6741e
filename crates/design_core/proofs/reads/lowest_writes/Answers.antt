use Rattle.std.proofs.Common.{◌∙◌}
use Rattle.design_core.specs.Design.{write_reads}
use Rattle.design_core.proofs.Lowest.{one_more}
use Rattle.design_core.proofs.reads.lowest_writes.Goals as goal

pub ports-preserved : goal.ports-preserved
ports-preserved c =
    one_more (write_reads) c.args.table.now c.args.ports.now c.ports.port-index c.port-item.result c.ports.found c.lowest_write-found.result c.ports-test.true c.port-item.is c.lowest_write-found.ensures
    ∙ c.ports.invariant
