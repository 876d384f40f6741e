-- The memories of the first chips have started.
use Rattle.frame_marks.proofs.Starting.{FirstMemories}
use Rattle.frame_marks.proofs.starts.start_memories.Given as goal

abbrev pub invariant-chips : goal.invariant-chips
invariant-chips g l = FirstMemories l.plan.design.now l.plan.results.now (g.I.Inside.inside l.inside) l.c l.memories
