-- The first chips have theirs.
use Rattle.frame_marks.proofs.Building.{FirstRows}
use Rattle.frame_marks.proofs.frame.all_memories.Given as goal

abbrev pub invariant-chips : goal.invariant-chips
invariant-chips l = FirstRows l.results l.c l.memories.items
