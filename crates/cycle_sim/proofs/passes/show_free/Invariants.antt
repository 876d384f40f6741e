-- The nets before the one at hand show what is held there, where no gate drives them.
use Rattle.cycle_sim.specs.Passes.{IsLevelBelow}
use Rattle.cycle_sim.proofs.passes.show_free.Given as goal

abbrev pub invariant-nets : goal.invariant-nets
invariant-nets l = IsLevelBelow l.initial.pass.chip l.held l.n l.pass
