-- The first chips have the words of their memories.
use Rattle.settled_model.specs.Held.{valuation}
use Rattle.cycle_sim.specs.Loading.{AreCopied}
use Rattle.cycle_sim.proofs.loaded.words_of.Given as goal

abbrev pub invariant-chips : goal.invariant-chips
invariant-chips l = AreCopied (valuation l.settled) l.results l.c l.words.items
