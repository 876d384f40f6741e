-- The outputs are taken in order.
use Rattle.std.proofs.Common.{◌≡◌, ◌<◌, ◌≤◌, ◌∙◌, [], ◌∷◌, List, ℕ, length, sym, ap, subst, arith, refl, get_or}
use Rattle.std.specs.Prelude.{Some, None, slice_get}
use Rattle.std.proofs.lemmas.Option.{slice_get-get_or}
use Rattle.emu_machine.specs.declared.map.Spot.{Spot}
use Rattle.emu_machine.specs.declared.place.Place.TheVariants as place
use Rattle.emu_machine.specs.Acceptance.{FailsA12}
use Rattle.output_marks.specs.Shown.{OutputCase}
use Rattle.use_check.proofs.Walk.{found, more, nowhere}
use Rattle.shape_check.proofs.Shown.{of_all, one_long, output_hides, output_shows, past_outputs}
use Rattle.shape_check.proofs.outputs.find_output.Goals as goal

element : (xs ys : List Spot) (k : ℕ) (d : Spot) → xs ≡ ys → k < length xs → slice_get ys k ≡ Some (get_or xs k d)
element xs ys k d same low = subst (λ (zs : List Spot). slice_get zs k ≡ Some (get_or xs k d)) same (slice_get-get_or xs k d low)

pub returns-then-not-shows : goal.returns-then-not-shows
returns-then-not-shows c =
    of_all c.args.case.now (Some (place.Output c.each.k))
    (found (FailsA12 c.args.case.now) (2 ∷ []) (one_long c.args.case.now) c.each.k (place.Output c.each.k) c.each.invariant
    (output_hides c.args.case.now c.each.k _ (element c.args.spots.now _ c.each.k _ c.requires.spots c.each-test.true)
    (sym (c.shows.ensures c.args.case.now (ap (λ (m : OutputCase). m.design) (sym c.requires.marks)) (ap (λ (m : OutputCase). m.results) (sym c.requires.marks))) ∙ c.if-not-shows.true)))

pub each-preserved : goal.each-preserved
each-preserved c =
    more (FailsA12 c.args.case.now) (2 ∷ []) c.each.k _ c.each.invariant
    (output_shows c.args.case.now c.each.k _ (element c.args.spots.now _ c.each.k _ c.requires.spots c.each-test.true)
    (sym (c.shows.ensures c.args.case.now (ap (λ (m : OutputCase). m.design) (sym c.requires.marks)) (ap (λ (m : OutputCase). m.results) (sym c.requires.marks))) ∙ c.if-not-shows.false))
    refl

pub returns : goal.returns
returns c =
    of_all c.args.case.now None
    (nowhere (FailsA12 c.args.case.now) (2 ∷ []) (one_long c.args.case.now) c.each.k c.each.invariant
    (λ j high. past_outputs c.args.case.now j (subst (λ (xs : List Spot). length xs ≤ j) c.requires.spots (omega (arith, high, c.each-test.false)))))
