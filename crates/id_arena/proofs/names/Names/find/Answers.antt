use Rattle.std.proofs.Common.{◌∙◌, sym}
use Rattle.id_arena.proofs.FirstPlaces.{place_among-Some}
use Rattle.id_arena.proofs.StoredNames.{place_among-stored}
use Rattle.id_arena.proofs.names.Names.find.Goals as goal

pub returns-in_err-place-clause-place : goal.returns-in_err-place-clause-place
returns-in_err-place-clause-place c =
    c.from_residual.ensures
    ∙ sym c.in_err-place.was
    ∙ c.get_index_of.ensures.index
    ∙ place_among-stored (λ text. text.items) c.self.inside.texts.keys c.args.self.now c.args.text.now c.self.view_is

pub returns-clause-place : goal.returns-clause-place
returns-clause-place c =
    sym c.in_ok-place.was
    ∙ c.get_index_of.ensures.index
    ∙ place_among-stored (λ text. text.items) c.self.inside.texts.keys c.args.self.now c.args.text.now c.self.view_is

pub returns-clause-found : goal.returns-clause-found
returns-clause-found c =
    place_among-Some c.args.self.now c.args.text.now c.in_ok-place.place (sym (returns-clause-place c))
