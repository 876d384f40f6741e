use Rattle.std.proofs.Common.{◌∙◌, Some, ap, rules}
use Rattle.id_arena.specs.declared.keys.GroupId.{GroupId}
use Rattle.event_replay.proofs.ReadWords.{group_found, group_passed}
use Rattle.event_replay.proofs.events.group_named.Goals as goal

pub returns-then-eq : goal.returns-then-eq
returns-then-eq c = ap (λ (id : GroupId). Some id.place) c.of-then-eq.ensures ∙ group_found c.args.groups.now c.args.name.now c.groups.place c.name.result.now (search rules) c.groups.invariant (search rules)

pub groups-preserved : goal.groups-preserved
groups-preserved c = group_passed c.args.groups.now c.args.name.now c.groups.place c.name.result.now (search rules) c.groups.invariant (search rules)
