use Rattle.std.proofs.Common.{arith}
use Rattle.netlist_reader.proofs.MemoryLines.{no_memory, no_nets}
use Rattle.netlist_reader.proofs.items.next_memory.Goals as goal

pub returns-in_default : goal.returns-in_default
returns-in_default c = no_memory c.args.nets _ _ c.name.ensures c.in_default.ensures

pub returns-then-count_of-gt0 : goal.returns-then-count_of-gt0
returns-then-count_of-gt0 c =
    no_nets c.args.nets _ _ c.in-Some.shape (omega arith) (omega arith) c.name.ensures c.in-Some.ensures
