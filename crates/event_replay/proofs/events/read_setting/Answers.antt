use Rattle.std.proofs.Common.{◌∙◌, ◌≡◌, Some, option_map, slice_get, not, length, refl, sym, ap, rules, subst}
use Rattle.design_core.specs.declared.parts.Port.{Port}
use Rattle.domain_groups.specs.Values.{is_value}
use Rattle.event_replay.proofs.ReadWords.{is_port, nets_are, port_at, value_no, value_yes}
use Rattle.event_replay.proofs.events.read_setting.Goals as goal

pub returns-then-not-is_value-clause-fails : goal.returns-then-not-is_value-clause-fails
returns-then-not-is_value-clause-fails c = λ g at.
    let port = is_port c.args.ports.now g c.in-Some.name.now c.in-Some-find.place c.index-ports-place.result c.as_slice-nets.result.now c.are_inside.result
    (sym c.in-Some-find.ensures.place) (port_at c.args.ports.now c.ports.result.now c.in-Some-find.place c.index-ports-place.result c.ports.ensures c.in-Some-find.ensures.within c.index-ports-place.is) (c.as_slice-nets.ensures ∙ ap (λ (port : Port). port.nets) (sym c.index-ports-place.is)) (c.are_inside.ensures g at) (search rules) in
    let nets = nets_are c.args.ports.now c.in-Some-find.place c.index-ports-place.result c.as_slice-nets.result.now (port_at c.args.ports.now c.ports.result.now c.in-Some-find.place c.index-ports-place.result c.ports.ensures c.in-Some-find.ensures.within c.index-ports-place.is) (c.as_slice-nets.ensures ∙ ap (λ (port : Port). port.nets) (sym c.index-ports-place.is)) in (
      refl,
      record {
        name = c.in-Some.name.now;
        digits = c.in-Some.digits.now;
        parted = c.in-Some.ensures;
        port = c.in-Some-find.place;
        is_port = port;
        first = search rules;
        wrong = ap (λ ns. is_value (length ns) c.in-Some.digits.now) nets ∙ value_no (length c.as_slice-nets.result.now) c.in-Some.digits.now c.is_value.result c.is_value.ensures (search rules);
      },
    )

pub returns-clause-sets : goal.returns-clause-sets
returns-clause-sets c = λ g at. record {
  name = c.in-Some.name.now;
  digits = c.in-Some.digits.now;
  parted = c.in-Some.ensures;
  sets = record {
    named = sym c.in-Some-find.ensures.place;
    nets = ap (option_map (λ (port : Port). port.nets)) (port_at c.args.ports.now c.ports.result.now c.in-Some-find.place c.index-ports-place.result c.ports.ensures c.in-Some-find.ensures.within c.index-ports-place.is) ∙ ap Some (sym (c.as_slice-nets.ensures ∙ ap (λ (port : Port). port.nets) (sym c.index-ports-place.is)));
    value = value_yes (length c.as_slice-nets.result.now) c.in-Some.digits.now c.is_value.result c.is_value.ensures (search rules);
    number = refl;
  };
  inside = sym (c.are_inside.ensures g at) ∙ search rules;
}
