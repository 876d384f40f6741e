use Rattle.std.proofs.Common.{rules}
use Rattle.frame_marks.proofs.Originals.{count_is}
use Rattle.frame_marks.proofs.memories.write_count.Goals as goal

pub returns-in-Some-memory_at : goal.returns-in-Some-memory_at
returns-in-Some-memory_at c =
    count_is c.args.start.now.design c.args.start.now.results c.args.chip.place c.args.mem.place c.in-Some.of c.in-Some-memory_at.memory.now
    (search rules)
    (search rules)
    c.len.result c.len.ensures
