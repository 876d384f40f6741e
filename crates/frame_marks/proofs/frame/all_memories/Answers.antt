use Rattle.std.proofs.Common.{rules}
use Rattle.frame_marks.proofs.Building.{rows_are}
use Rattle.frame_marks.proofs.frame.all_memories.Goals as goal

pub returns : goal.returns
returns c =
    rows_are c.args.results.now c.chips.c c.chips.memories.items (search rules) (search rules) c.chips.invariant
