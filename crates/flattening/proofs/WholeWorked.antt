-- The whole examples compute.
use Rattle.std.proofs.Common.{refl}
use Rattle.module_nets.specs.Names.{first_uses, text_of}
use Rattle.flattening.specs.Flattening.{constants_alone, expanded, flattened, instance_step}
use Rattle.flattening.specs.Instances.{entering, module_steps}
use Rattle.flattening.specs.Items.{supply_deed}
use Rattle.flattening.specs.WholeExamples.{LoopIsRecursive, NestHasNoSuchTop, NestIsFlat, WholeExamplesHold, loop, nest, nest_parts}

no_top : NestHasNoSuchTop
unfolding flattened nest text_of
no_top = refl

recursive : LoopIsRecursive
unfolding flattened loop text_of first_uses constants_alone expanded instance_step entering module_steps
recursive = refl

flat : NestIsFlat
unfolding flattened nest nest_parts text_of first_uses constants_alone expanded instance_step entering module_steps supply_deed
flat = refl

pub whole_examples_hold : WholeExamplesHold
whole_examples_hold = (flat, no_top, recursive)
