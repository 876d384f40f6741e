-- The first chips have started.
use Rattle.frame_marks.proofs.Starting.{FirstStarted}
use Rattle.frame_marks.proofs.starts.start_chips.Given as goal

abbrev pub invariant-chips : goal.invariant-chips
invariant-chips g l = FirstStarted l.plan.design.now l.plan.results.now (g.I.Inside.inside l.inside) l.c l.chips
