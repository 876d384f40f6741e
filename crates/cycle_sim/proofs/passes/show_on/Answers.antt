use Rattle.cycle_sim.specs.Values.{gate_gives}
use Rattle.cycle_sim.proofs.passes.show_on.Goals as goal

pub returns-clause-others : goal.returns-clause-others
returns-clause-others c = c.set.ensures.others gate_gives c.requires.others
