-- The first chips have their passes.
use Rattle.cycle_sim.specs.Passes.{AreFirstPasses}
use Rattle.cycle_sim.proofs.passes.passes_of.Given as goal

abbrev pub invariant-chips : goal.invariant-chips
invariant-chips l = AreFirstPasses l.results l.held l.c l.passes.items
