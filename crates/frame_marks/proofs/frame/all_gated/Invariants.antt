-- The first chips have theirs.
use Rattle.frame_marks.proofs.Building.{FirstGated}
use Rattle.frame_marks.proofs.frame.all_gated.Given as goal

abbrev pub invariant-chips : goal.invariant-chips
invariant-chips l = FirstGated l.results l.c l.gated.items
