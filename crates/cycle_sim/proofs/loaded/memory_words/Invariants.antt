-- The words at the first addresses.
use Rattle.settled_model.specs.Held.{valuation}
use Rattle.cycle_sim.specs.Loading.{IsCopy}
use Rattle.cycle_sim.proofs.loaded.memory_words.Given as goal

abbrev pub invariant-addresses : goal.invariant-addresses
invariant-addresses l = IsCopy (valuation l.settled) l.of.place l.address l.words
