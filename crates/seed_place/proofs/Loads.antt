-- What stands on a chip after one element more is placed.
use Rattle.std.proofs.Common.{◌≡◌, ◌+◌, ℕ, zero, suc, List, [], ◌∷◌, ◌++◌, length, refl, ap, ◌∙◌, inl, inr}
use Rattle.std.specs.Prelude.{◌⊎◌, Some, slice_get, sum_by, zip}
use Rattle.std.proofs.lemmas.Option.{none-some, same_Some}
use Rattle.std.proofs.lemmas.List.Sums.{sum_by_push}
use Rattle.id_arena.specs.declared.keys.ChipId.{ChipId}
use Rattle.design_core.specs.declared.element.Element.{Element}
use Rattle.design_core.specs.declared.parts.Parts.{Parts}
use Rattle.seed_place.specs.Rooms.{taken, load}

-- an element of a list with one more at its end stands in the list, or is the last
pub at_end : {X : Type 0} (xs : List X) (last : X) (k : ℕ) (x : X) → slice_get (xs ++ last ∷ []) k ≡ Some x
    → (slice_get xs k ≡ Some x) ⊎ ((k ≡ length xs) × (last ≡ x))
at_end [] last zero x at = inr (refl, same_Some last x at)
at_end [] last (suc k) x at = absurd (none-some x at)
at_end (y ∷ ys) last zero x at = inl at
at_end (y ∷ ys) last (suc k) x at = elim (at_end ys last k x at) [
  | inl h ↦ inl h
  | inr h ↦ inr (ap suc h.0, h.1)
]

zip_none : {X : Type 0} {Y : Type 0} (xs : List X) → zip {X = Y} xs [] ≡ []
zip_none [] = refl
zip_none (x ∷ xs) = refl

-- two lists side by side, where the shorter one gets one more at its end
zip_push : {X : Type 0} {Y : Type 0} (xs : List X) (ys : List Y) (x : X) (y : Y) → slice_get xs (length ys) ≡ Some x
    → zip xs (ys ++ y ∷ []) ≡ zip xs ys ++ (x, y) ∷ []
zip_push [] ys x y at = absurd (none-some x at)
zip_push {X} {Y} (a ∷ xs) [] x y at = ap (λ (es : List (X × Y)). (a, y) ∷ es) (zip_none xs) ∙ ap (λ (e : X). (e, y) ∷ []) (same_Some a x at)
zip_push {X} {Y} (a ∷ xs) (b ∷ ys) x y at = ap (λ (es : List (X × Y)). (a, b) ∷ es) (zip_push xs ys x y at)

module _ (p : Parts) where
  pub load_push : (chips : List ChipId) (e : Element) (chip : ChipId) (c : ℕ) → slice_get p.elements (length chips) ≡ Some e
      → load p (chips ++ chip ∷ []) c ≡ load p chips c + taken p c e chip
  load_push chips e chip c at =
      let weigh : Element × ChipId → ℕ = λ (pair : Element × ChipId). taken p c pair.0 pair.1 in
      ap (sum_by weigh) (zip_push p.elements chips e chip at) ∙ sum_by_push weigh (zip p.elements chips) (e, chip)

  pub load_none : (c : ℕ) → load p [] c ≡ 0
  load_none c = ap (sum_by (λ (pair : Element × ChipId). taken p c pair.0 pair.1)) (zip_none p.elements)
