use Rattle.std.proofs.Common.{◌∙◌}
use Rattle.design_core.proofs.Owning.{fresh_is}
use Rattle.design_core.proofs.owners.shape_good.Goals as goal

pub returns-in-Memory : goal.returns-in-Memory
returns-in-Memory c k owned =
    rw (c.in-Memory.is) (c.memory_fresh.ensures ∙ fresh_is c.args.parts.now k c.in-Memory.id.place c.args.owners.now owned)
