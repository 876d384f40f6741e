-- The first memories have their words.
use Rattle.settled_model.specs.Held.{valuation}
use Rattle.cycle_sim.specs.Loading.{FirstCopied}
use Rattle.cycle_sim.proofs.loaded.chip_words.Given as goal

abbrev pub invariant-memories : goal.invariant-memories
invariant-memories l = FirstCopied (valuation l.settled) l.chip l.entry l.m l.words.items
