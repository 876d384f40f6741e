use Rattle.std.proofs.Common.{◌∙◌}
use Rattle.design_core.specs.Design.{memory_reads}
use Rattle.design_core.proofs.Lowest.{one_more}
use Rattle.design_core.proofs.reads.lowest_memories.Goals as goal

pub memories-preserved : goal.memories-preserved
memories-preserved c =
    one_more (memory_reads) c.args.table.now c.args.memories.now c.memories.memory-index c.memory-item.result c.memories.found c.lowest_memory-found.result c.memories-test.true c.memory-item.is c.lowest_memory-found.ensures
    ∙ c.memories.invariant
