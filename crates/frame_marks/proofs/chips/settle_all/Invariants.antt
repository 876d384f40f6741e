-- The first chips have settled.
use Rattle.frame_marks.proofs.Passing.{FirstSettled}
use Rattle.frame_marks.proofs.chips.settle_all.Given as goal

abbrev pub invariant-chips : goal.invariant-chips
invariant-chips g l = FirstSettled l.plan.design.now l.plan.results.now (g.I.Inside.inside l.inside) l.c l.initial.chips l.chips
