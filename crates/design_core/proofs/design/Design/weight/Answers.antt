-- An element that is a memory is one of the design's memories.
use Rattle.design_core.proofs.Bounds.{memory_there}
use Rattle.design_core.proofs.design.Design.weight.Goals as goal

pub memory_weight-requires : goal.memory_weight-requires
memory_weight-requires c = memory_there c.args.self.now c.elem.result.now c.in-Memory.id c.elem.ensures.fits c.in-Memory.is
