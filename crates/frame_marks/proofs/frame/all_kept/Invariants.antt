-- The first chips have theirs.
use Rattle.frame_marks.proofs.Building.{FirstKept}
use Rattle.frame_marks.proofs.frame.all_kept.Given as goal

abbrev pub invariant-chips : goal.invariant-chips
invariant-chips l = FirstKept l.results l.c l.kept.items
