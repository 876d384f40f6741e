use Rattle.std.proofs.Common.{◌≡◌, ◌<◌, ◌≤◌, None, Some, ap, length, rules, sym, ◌∙◌}
use Rattle.id_arena.specs.Names.{place_among}
use Rattle.module_nets.proofs.Numbering.{absent_all, absent_front, found_front}
use Rattle.module_nets.proofs.nets.ModuleNets.find.Goals as goal

pub returns-in_err-place : goal.returns-in_err-place
returns-in_err-place c =
    let at : place_among c.self.inside.names c.args.text.now ≡ None = sym c.find.ensures.place ∙ c.in_err-place.was in
    c.from_residual.ensures
    ∙ absent_all c.self.inside.names (length c.self.inside.rows) c.args.text.now c.self.invariant at
    ∙ ap (λ s. place_among s.names c.args.text.now) c.self.view_is

pub returns-then-from-len : goal.returns-then-from-len
returns-then-from-len c =
    let at : place_among c.self.inside.names c.args.text.now ≡ Some c.in_ok-place.place = sym c.find.ensures.place ∙ c.in_ok-place.was in
    let inside : c.in_ok-place.place < length c.self.inside.rows = search rules in
    found_front c.self.inside.names (length c.self.inside.rows) c.in_ok-place.place c.args.text.now c.self.invariant at inside
    ∙ ap (λ s. place_among s.names c.args.text.now) c.self.view_is

pub returns-else-from-len : goal.returns-else-from-len
returns-else-from-len c =
    let at : place_among c.self.inside.names c.args.text.now ≡ Some c.in_ok-place.place = sym c.find.ensures.place ∙ c.in_ok-place.was in
    let past : length c.self.inside.rows ≤ c.in_ok-place.place = search rules in
    absent_front c.self.inside.names (length c.self.inside.rows) c.in_ok-place.place c.args.text.now c.self.invariant at past
    ∙ ap (λ s. place_among s.names c.args.text.now) c.self.view_is
