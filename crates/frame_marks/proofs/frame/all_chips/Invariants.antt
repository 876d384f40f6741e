-- The first chips have theirs.
use Rattle.frame_marks.proofs.Building.{FirstChips}
use Rattle.frame_marks.proofs.frame.all_chips.Given as goal

abbrev pub invariant-chips : goal.invariant-chips
invariant-chips l = FirstChips l.results l.c l.chips.items
