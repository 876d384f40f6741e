use Rattle.std.proofs.Common.{◌≡◌, ◌∙◌, Some, None, length, slice_get, sym, ap, arith, refl, rules}
use Rattle.std.proofs.lemmas.Option.{slice_get_read, slice_get_within}
use Rattle.domain_groups.specs.Openings.{led_to}
use Rattle.event_replay.proofs.Leading.{led_known, led_unknown}
use Rattle.event_replay.proofs.path_names.PathNames.find.Goals as goal

pub returns-in-Some : goal.returns-in-Some
returns-in-Some c =
    let known : slice_get c.self.inside.names c.in-Some.place ≡ Some c.args.path.now = search rules in
    let inside = slice_get_within c.self.inside.names c.in-Some.place c.args.path.now known in
    let at = slice_get_read c.self.inside.numbers.items (length c.self.inside.numbers.items) c.in-Some.place c.index.result.now refl (omega (arith, inside, c.self.invariant)) c.index.ensures in
    sym (led_known c.args.path.now c.self.inside.names c.self.inside.numbers.items c.in-Some.place c.index.result.now (sym c.find.ensures.place ∙ c.in-Some.is) at)
    ∙ ap (λ es. led_to es c.args.path.now) c.self.view_is

pub returns-in-None : goal.returns-in-None
returns-in-None c =
    sym (led_unknown c.args.path.now c.self.inside.names c.self.inside.numbers.items (sym c.find.ensures.place ∙ c.in-None.is))
    ∙ ap (λ es. led_to es c.args.path.now) c.self.view_is
