-- The first chips have what their registers hold.
use Rattle.cycle_sim.specs.Loading.{AreHeld}
use Rattle.cycle_sim.proofs.loaded.held_of.Given as goal

abbrev pub invariant-chips : goal.invariant-chips
invariant-chips l = AreHeld l.results l.values l.c l.held.items
