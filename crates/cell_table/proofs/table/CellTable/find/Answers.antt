use Rattle.std.proofs.Common.{◌≡◌, Some, None, sym, ap, ◌∙◌, refl}
use Rattle.id_arena.specs.Names.{place_among}
use Rattle.std.specs.Prelude.{slice_get}
use Rattle.cell_table.specs.Table.{names_of}
use Rattle.cell_table.proofs.TableLemmas.{not_found}
use Rattle.cell_table.proofs.table.CellTable.find.Goals as goal

pub returns-in_err-place-clause-none : goal.returns-in_err-place-clause-none
returns-in_err-place-clause-none c =
    let seen : c.self.inside.names ≡ names_of c.args.self.now = c.self.invariant.0 ∙ ap names_of c.self.view_is in
    let absent : place_among (names_of c.args.self.now) c.args.name.now ≡ None = ap (λ names. place_among names c.args.name.now) (sym seen) ∙ sym c.in_err-place.ensures.place in
    ((λ _ k at. not_found (names_of c.args.self.now) c.args.name.now k absent at), (λ _. rw c.from_residual.ensures refl))

pub returns-clause-none : goal.returns-clause-none
returns-clause-none c =
    let seen : c.self.inside.names ≡ names_of c.args.self.now = c.self.invariant.0 ∙ ap names_of c.self.view_is in
    let found : slice_get (names_of c.args.self.now) c.in_ok-place.place ≡ Some c.args.name.now = ap (λ names. slice_get names c.in_ok-place.place) (sym seen) ∙ c.in_ok-place.ensures.found in
    ((λ impossible. cc), (λ nowhere. absurd (nowhere c.in_ok-place.place found)))
