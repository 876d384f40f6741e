use Rattle.std.proofs.Common.{◌≡◌, ◌∙◌, Some, None, slice_get, sym, ap, subst, arith, rules}
use Rattle.event_replay.proofs.Growing.{grown, passed_as, taken}
use Rattle.event_replay.proofs.path_names.PathNames.new.Goals as goal
use Rattle.event_replay.proofs.path_names.PathNames.new.Goals.{in-Some+in_ok-path+in_ok-take_in, in_default}

pub elements-preserved : goal.elements-preserved
elements-preserved c =
    let here = c.elem.ensures.here in
    let at : slice_get c.args.design.now.elements c.elements.place ≡ Some c.elem.result.now = search rules in
    elim c.match-number_of.branch [
      | in-Some+in_ok-path+in_ok-take_in w ↦
          taken c.args.design.now c.args.kind c.elements.place c.elements.names c.elements.numbers.items c.stands.ensures.named c.elements.invariant c.elem.result.now w.in-Some.number w.bytes.result.now c.match-number_of.names c.match-number_of.numbers.items
          at (sym c.number_of.ensures ∙ w.in-Some.is) (search rules) (search rules)
      | in_default w ↦
          passed_as c.args.design.now c.args.kind c.elements.place c.elements.names c.elements.numbers.items c.stands.ensures.named c.elements.invariant c.elem.result.now c.match-number_of.names c.match-number_of.numbers.items
          at (sym c.number_of.ensures ∙ w.in_default.is) w.names-is (ap (λ ns. ns.items) w.numbers-is)
    ]

pub returns : goal.returns
returns c =
    grown c.args.design.now c.args.kind c.elements.place c.elements.names c.elements.numbers.items c.stands.ensures.named c.elements.invariant (omega arith)
