-- Good parts have all nets and names, and with the limits and drivers they are sound.
use Rattle.design_core.proofs.Goodness.{are_there_all, is_named, is_sound, memories_fit}
use Rattle.design_core.proofs.design.Design.build.Goals as goal

pub limit_passed-requires : goal.limit_passed-requires
limit_passed-requires c = memories_fit c.args.parts c.in-Ok.ensures.good

pub sole_drivers-requires-clause-there : goal.sole_drivers-requires-clause-there
sole_drivers-requires-clause-there c = are_there_all c.args.parts c.in-Ok.ensures.good

pub sole_drivers-requires-clause-named : goal.sole_drivers-requires-clause-named
sole_drivers-requires-clause-named c = is_named c.args.parts c.in-Ok.ensures.good

pub from_parts-requires-clause-sound : goal.from_parts-requires-clause-sound
from_parts-requires-clause-sound c = is_sound c.args.parts c.requires c.in-Ok.ensures.good c.in_default.ensures c.in-Ok.ensures.single c.in-Ok-sole_drivers.ensures.once c.in-Ok-sole_drivers.ensures.driven
