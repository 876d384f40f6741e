-- What elements name is there.
use Rattle.std.proofs.Common.{◌∙◌, ap, refl}
use Rattle.std.specs.Prelude.{Some}
use Rattle.facts.proofs.Tests.{same_number}
use Rattle.shape_check.proofs.Lost.{driven_low, memory_low}
use Rattle.shape_check.proofs.unmapped.is_mapped.Goals as goal

pub is_kept-requires-clause-there : goal.is_kept-requires-clause-there
is_kept-requires-clause-there c =
    driven_low c.args.case.now.design c.args.elem.place c.in-Flop.flop.q.place _ c.stands.ensures.design (c.requires.here ∙ ap Some c.in-Flop.is) (same_number _ _ refl)

pub is_kept-requires-in-Latch-clause-there : goal.is_kept-requires-in-Latch-clause-there
is_kept-requires-in-Latch-clause-there c =
    driven_low c.args.case.now.design c.args.elem.place c.in-Latch.latch.q.place _ c.stands.ensures.design (c.requires.here ∙ ap Some c.in-Latch.is) (same_number _ _ refl)

pub is_memory_mapped-requires-clause-there : goal.is_memory_mapped-requires-clause-there
is_memory_mapped-requires-clause-there c =
    memory_low c.args.case.now.design c.args.elem.place c.in-Memory.mem c.stands.ensures.design (c.requires.here ∙ ap Some c.in-Memory.is)
