use Rattle.std.proofs.Common.{◌∙◌, ◌∷◌, ◌≡◌, false, Some, slice_get, length, refl, sym, ap, rules, arith}
use Rattle.design_core.specs.Influence.{Group}
use Rattle.domain_groups.specs.Events.{IsOfGroup, group_named}
use Rattle.domain_groups.specs.Groups.{frames}
use Rattle.domain_groups.specs.Lines.{is_bad, words}
use Rattle.event_replay.proofs.ReadWords.{frame_there, group_of, of_group}
use Rattle.event_replay.proofs.Told.{line_tells, line_fails}
use Rattle.event_replay.proofs.events.read_event.Goals as goal

pub read_settings-requires-clause-group : goal.read_settings-requires-clause-group
read_settings-requires-clause-group c = frame_there c.args.groups.now c.in-Some.name.now c.in-Some-group_named.group.place (sym c.in-Some-group_named.ensures)

pub returns-in-Ok-clause-means : goal.returns-in-Ok-clause-means
returns-in-Ok-clause-means c =
    let place = c.in-Some-group_named.group.place in
    let named = sym c.in-Some-group_named.ensures in
    let g = group_of c.args.groups.now c.in-Some.name.now place named in
    let whole = of_group c.args.groups.now c.args.line.now c.in-Some.name.now (words c.in-Some.rest.now) place g.0 (search rules) c.in-Some.ensures.words named g.1 in
    line_tells c.args.groups.now c.args.ports.now c.args.number c.args.line.now g.0 place (words c.in-Some.rest.now) whole
    (record { group = c.in-Some-group_named.group; values = c.in-Ok.values }) refl (c.in-Ok.ensures.means g.0 g.1)

pub returns-in-Err-clause-means : goal.returns-in-Err-clause-means
returns-in-Err-clause-means c =
    let place = c.in-Some-group_named.group.place in
    let named = sym c.in-Some-group_named.ensures in
    let g = group_of c.args.groups.now c.in-Some.name.now place named in
    let whole = of_group c.args.groups.now c.args.line.now c.in-Some.name.now (words c.in-Some.rest.now) place g.0 (search rules) c.in-Some.ensures.words named g.1 in
    line_fails c.args.groups.now c.args.ports.now c.args.number c.args.line.now g.0 place (words c.in-Some.rest.now) whole c.in-Err.fault (c.in-Err.ensures.means g.0 g.1)
