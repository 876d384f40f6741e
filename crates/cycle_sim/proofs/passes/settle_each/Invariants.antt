-- The chips before the one at hand have caught up.
use Rattle.cycle_sim.specs.Passes.{FirstCaughtUp}
use Rattle.cycle_sim.proofs.passes.settle_each.Given as goal

abbrev pub invariant-chips : goal.invariant-chips
invariant-chips l = FirstCaughtUp l.c l.initial.passes l.passes
