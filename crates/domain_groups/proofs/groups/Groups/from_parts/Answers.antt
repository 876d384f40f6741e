use Rattle.std.proofs.Common.{subst, List}
use Rattle.std.specs.Prelude.{Contains}
use Rattle.id_arena.specs.declared.keys.NetId.{NetId}
use Rattle.domain_groups.proofs.groups.Groups.from_parts.Goals as goal

pub members_of-requires-clause-below : goal.members_of-requires-clause-below
members_of-requires-clause-below c = λ n h. c.requires.below n (subst (λ (xs : List NetId). Contains xs n) c.as_slice-2.ensures h)
