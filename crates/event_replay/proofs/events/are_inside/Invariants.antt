use Rattle.std.proofs.Common.{◌≡◌, Some, drop, slice_get}
use Rattle.design_core.specs.Influence.{Group}
use Rattle.domain_groups.specs.Events.{are_inside}
use Rattle.domain_groups.specs.Groups.{frames}
use Rattle.event_replay.proofs.events.are_inside.Given as goal

abbrev pub invariant-nets : goal.invariant-nets
invariant-nets l = (g : Group) → slice_get (frames l.groups) l.group.place ≡ Some g → are_inside g (drop l.net-index l.nets) ≡ are_inside g l.nets
