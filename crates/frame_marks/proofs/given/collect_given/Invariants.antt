-- What the first actions give is collected.
use Rattle.std.proofs.Common.{take}
use Rattle.frame_marks.specs.Takes.{AreFree, GivesAll}
use Rattle.frame_marks.proofs.given.collect_given.Given as goal

abbrev pub invariant-actions : goal.invariant-actions
invariant-actions l = record {
  free : AreFree l.start.results l.given.items;
  given : GivesAll l.start (take l.action-index l.actions) l.given.items;
}
