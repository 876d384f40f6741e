use Rattle.std.proofs.Common.{◌≡◌, ◌∙◌, sym, ap, subst, rules, arith, refl, Some, length, slice_get, ◌<◌}
use Rattle.std.proofs.lemmas.Option.{slice_get_read, slice_get_within}
use Rattle.domain_groups.specs.Ports.{port_named}
use Rattle.domain_groups.proofs.FirstPorts.{named_within, not_among}
use Rattle.domain_groups.proofs.port_names.PortNames.find.Goals as goal

pub returns-in-Some-clause-within : goal.returns-in-Some-clause-within
returns-in-Some-clause-within c =
    let known : slice_get c.self.inside.names c.in-Some.number ≡ Some c.args.name.now = search rules in
    let inside = slice_get_within c.self.inside.names c.in-Some.number c.args.name.now known in
    let place = slice_get_read c.self.inside.firsts.items (length c.self.inside.firsts.items) c.in-Some.number c.index.result.now refl (omega (arith, inside, c.self.invariant.same)) c.index.ensures in
    let first = c.self.invariant.first c.in-Some.number c.index.result.now c.args.name.now known place in
    subst (λ ports. c.index.result.now < length ports) c.self.view_is (named_within c.self.inside.ports.now c.args.name.now c.index.result.now first)

pub returns-in-None-clause-place : goal.returns-in-None-clause-place
returns-in-None-clause-place c =
    sym (c.self.invariant.none c.args.name.now (λ k here. not_among c.self.inside.names c.args.name.now k (sym c.find.ensures.place ∙ c.in-None.is) here))
    ∙ ap (λ ports. port_named ports c.args.name.now) c.self.view_is
