-- What the first actions write is collected.
use Rattle.std.proofs.Common.{take}
use Rattle.frame_marks.specs.Takes.{AreMemories, WritesAll}
use Rattle.frame_marks.proofs.memories.collect_written.Given as goal

abbrev pub invariant-actions : goal.invariant-actions
invariant-actions l = record {
  there : AreMemories l.start.results l.written.items;
  written : WritesAll l.start (take l.action-index l.actions) l.written.items;
}
