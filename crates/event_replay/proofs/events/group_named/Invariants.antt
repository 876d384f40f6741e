use Rattle.std.proofs.Common.{◌≡◌, drop}
use Rattle.std.specs.List.{position_from}
use Rattle.std.specs.Str.{bytes_eq}
use Rattle.domain_groups.specs.Groups.{frames}
use Rattle.domain_groups.specs.Events.{group_named}
use Rattle.event_replay.proofs.events.group_named.Given as goal

abbrev pub invariant-groups : goal.invariant-groups
invariant-groups l = position_from (λ group. bytes_eq l.name group.name) l.place (drop l.place (frames l.groups)) ≡ group_named l.groups l.name
