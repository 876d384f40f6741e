use Rattle.std.proofs.Common.{◌≡◌, ◌∙◌, None, Option, Some, ap, slice_get, sym, ℕ}
use Rattle.id_arena.specs.Names.{place_among}
use Rattle.module_nets.specs.Names.{text_of}
use Rattle.module_bits.proofs.Noting.{first_named}
use Rattle.module_bits.proofs.ports.Given.first.Goals as goal

pub returns-in_err-place : goal.returns-in_err-place
returns-in_err-place c =
    let g = c.args.self.now in
    let text = text_of c.args.source.now c.args.tokens.now in
    let at : place_among g.names (text c.args.name) ≡ None = ap (λ t. place_among g.names t) (sym c.text_at.ensures) ∙ sym c.find.ensures.place ∙ c.in_err-place.was in
    c.from_residual.ensures
    ∙ sym (first_named text g (text c.args.name) c.requires ∙ ap {A = Option ℕ} (λ o. elim o [ None ↦ None | Some p ↦ slice_get g.firsts p ]) at)

pub returns : goal.returns
returns c =
    let g = c.args.self.now in
    let text = text_of c.args.source.now c.args.tokens.now in
    let at : place_among g.names (text c.args.name) ≡ Some c.in_ok-place.place = ap (λ t. place_among g.names t) (sym c.text_at.ensures) ∙ sym c.find.ensures.place ∙ c.in_ok-place.was in
    sym c.get.ensures
    ∙ ap (λ k. slice_get g.firsts k) c.from.ensures
    ∙ sym (first_named text g (text c.args.name) c.requires ∙ ap {A = Option ℕ} (λ o. elim o [ None ↦ None | Some p ↦ slice_get g.firsts p ]) at)
