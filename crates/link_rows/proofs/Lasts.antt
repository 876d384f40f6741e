-- The part of a list from an item on, and the last item.
use Rattle.std.proofs.Common.{◌≡◌, ℕ, ◌<◌, Bool, true, false, if◌then◌else◌, eqb, ◌⊎◌, List, [], ◌∷◌, ◌++◌, Option, Some, None, length, refl, sym, ap, ◌∙◌, inl, inr, arith}
use Rattle.std.proofs.lemmas.Bool.{true≢false, eqb-true, eqb-false, eq-eqb, ne_eqb, or_parts, or_right}
use Rattle.link_rows.specs.Rows.{has, first_of, last_or, after, before, without, IsApart}
use Rattle.link_rows.proofs.HeadLists.{has-cons_same, has-cons_other, has-differ}

-- the part of a list that begins with an item
abbrev pub part_from : ℕ → List ℕ → List ℕ
part_from i [] = []
part_from i (x ∷ xs) = if eqb i x then x ∷ xs else part_from i xs

pub part_from-first : (k : ℕ) (xs : List ℕ) → first_of xs ≡ Some k → part_from k xs ≡ xs
part_from-first k [] is = absurd (let no : None ≡ Some k = is in cc)
part_from-first k (x ∷ xs) is =
    let same : k ≡ x = (let both : Some x ≡ Some k = is in cc) in
    ap (λ b. if b then x ∷ xs else part_from k xs) (eq-eqb k x same)

pub has-first : (k : ℕ) (xs : List ℕ) → first_of xs ≡ Some k → has k xs ≡ true
has-first k [] is = absurd (let no : None ≡ Some k = is in cc)
has-first k (x ∷ xs) is = has-cons_same k x xs (let both : Some x ≡ Some k = is in cc)

pub has-after : (i k : ℕ) (xs : List ℕ) → after i xs ≡ Some k → has k xs ≡ true
has-after i k [] is = absurd (let no : None ≡ Some k = is in cc)
has-after i k (x ∷ xs) is = go (eqb i x) is (has-after i k xs)
  where
    go : (b : Bool) → (if b then first_of xs else after i xs) ≡ Some k → (after i xs ≡ Some k → has k xs ≡ true) → has k (x ∷ xs) ≡ true
    go true at rest = or_right (eqb k x) (has k xs) (has-first k xs at)
    go false at rest = or_right (eqb k x) (has k xs) (rest at)

-- the part from an item on is the item, and the part from the next on
pub part_from-after : (i k : ℕ) (xs : List ℕ) → IsApart xs → after i xs ≡ Some k → part_from i xs ≡ i ∷ part_from k xs
part_from-after i k [] apart is = absurd (let no : None ≡ Some k = is in cc)
part_from-after i k (x ∷ xs) apart is = go (eqb i x) refl is (part_from-after i k xs apart.1)
  where
    other : has k xs ≡ true → part_from k (x ∷ xs) ≡ part_from k xs
    other among = ap (λ b. if b then x ∷ xs else part_from k xs) (ne_eqb k x (has-differ k x xs among apart.0))

    go : (b : Bool) → eqb i x ≡ b → (if b then first_of xs else after i xs) ≡ Some k → (after i xs ≡ Some k → part_from i xs ≡ i ∷ part_from k xs)
        → (if b then x ∷ xs else part_from i xs) ≡ i ∷ part_from k (x ∷ xs)
    go true e at rest =
        let tail : xs ≡ part_from k (x ∷ xs) = sym (other (has-first k xs at) ∙ part_from-first k xs at) in
        λ j. sym (eqb-true i x e) j ∷ tail j
    go false e at rest = rest at ∙ ap {B = List ℕ} (λ ys. i ∷ ys) (sym (other (has-after i k xs at)))

-- an item that nothing follows is the last
pub part_from-last : (i : ℕ) (xs : List ℕ) → has i xs ≡ true → after i xs ≡ None → part_from i xs ≡ i ∷ []
part_from-last i [] here is = absurd (true≢false (sym here))
part_from-last i (x ∷ xs) here is = go (eqb i x) refl is (part_from-last i xs)
  where
    empty : (ys : List ℕ) → first_of ys ≡ None → ys ≡ []
    empty [] none = refl
    empty (y ∷ ys) none = absurd (let no : Some y ≡ None = none in cc)

    go : (b : Bool) → eqb i x ≡ b → (if b then first_of xs else after i xs) ≡ None → (has i xs ≡ true → after i xs ≡ None → part_from i xs ≡ i ∷ [])
        → (if b then x ∷ xs else part_from i xs) ≡ i ∷ []
    go true e at rest = let none = empty xs at in λ j. sym (eqb-true i x e) j ∷ none j
    go false e at rest = rest (sym (has-cons_other i x xs (eqb-false i x e)) ∙ here) at

-- the part from an item on begins with it
first_of-part_from : (n : ℕ) (ys : List ℕ) → has n ys ≡ true → first_of (part_from n ys) ≡ Some n
first_of-part_from n [] among = absurd (true≢false (sym among))
first_of-part_from n (y ∷ ys) among = go (eqb n y) refl (first_of-part_from n ys)
  where
    go : (b : Bool) → eqb n y ≡ b → (has n ys ≡ true → first_of (part_from n ys) ≡ Some n) → first_of (if b then y ∷ ys else part_from n ys) ≡ Some n
    go true e rest = ap Some (sym (eqb-true n y e))
    go false e rest = rest (sym (has-cons_other n y ys (eqb-false n y e)) ∙ among)

-- the walk of a list so far: the place is of the list, and the last from there on is the last of all
pub record Walks (xs : List ℕ) (at : ℕ) : Type 0 where
  pub here : has at xs ≡ true
  pub last : last_or None (part_from at xs) ≡ last_or None xs

pub walks-start : (xs : List ℕ) (k : ℕ) → first_of xs ≡ Some k → Walks xs k
walks-start xs k is = record {
  here = has-first k xs is;
  last = ap (last_or None) (part_from-first k xs is);
}

pub walks-step : (xs : List ℕ) (i k : ℕ) → IsApart xs → Walks xs i → after i xs ≡ Some k → Walks xs k
walks-step xs i k apart walks is = record {
  here = has-after i k xs is;
  last = go (part_from k xs) (first_of-part_from k xs (has-after i k xs is)) (sym (ap (last_or None) (part_from-after i k xs apart is)) ∙ walks.last);
}
  where
    go : (ys : List ℕ) → first_of ys ≡ Some k → last_or None (i ∷ ys) ≡ last_or None xs → last_or None ys ≡ last_or None xs
    go [] none e = absurd (let never : None ≡ Some k = none in cc)
    go (y ∷ ys) first e = e

pub walks-end : (xs : List ℕ) (i : ℕ) → Walks xs i → after i xs ≡ None → last_or None xs ≡ Some i
walks-end xs i walks is = sym walks.last ∙ ap (last_or None) (part_from-last i xs walks.here is)

pub walks-falls : (xs : List ℕ) (i k : ℕ) → IsApart xs → after i xs ≡ Some k → length (part_from k xs) < length (part_from i xs)
walks-falls xs i k apart is = omega (arith, ap length (part_from-after i k xs apart is))

-- an empty list has no last item
pub last_or-empty : (xs : List ℕ) → first_of xs ≡ None → last_or None xs ≡ None
last_or-empty [] none = refl
last_or-empty (x ∷ xs) none = absurd (let no : Some x ≡ None = none in cc)

-- a list with a last item is the others, and that item
pub split_last : (prev : Option ℕ) (i : ℕ) (xs : List ℕ) → last_or prev xs ≡ Some i → ((prev ≡ Some i) × (xs ≡ [])) ⊎ ((ys : List ℕ) × (xs ≡ ys ++ i ∷ []))
split_last prev i [] is = inl (is, refl)
split_last prev i (x ∷ xs) is =
    elim (split_last (Some x) i xs is) [
      | inl end ↦ inr ([], (let both : Some x ≡ Some i = end.0 in let same : x ≡ i = cc in λ j. same j ∷ end.1 j))
      | inr more ↦ inr (x ∷ more.0, ap {B = List ℕ} (λ ys. x ∷ ys) more.1)
    ]

module _ (i : ℕ) where
  -- an item that stands apart at the end is in no other place
  pub has-end : (ys : List ℕ) → IsApart (ys ++ i ∷ []) → has i ys ≡ false
  has-end [] apart = refl
  has-end (y ∷ ys) apart =
      go (eqb i y) refl (has-end ys apart.1)
    where
      at_end : (zs : List ℕ) → has i (zs ++ i ∷ []) ≡ true
      at_end [] = has-cons_same i i [] refl
      at_end (z ∷ zs) = or_right (eqb i z) (has i (zs ++ i ∷ [])) (at_end zs)

      go : (b : Bool) → eqb i y ≡ b → has i ys ≡ false → has i (y ∷ ys) ≡ false
      go true e rest = absurd (has-differ i y (ys ++ i ∷ []) (at_end ys) apart.0 (eqb-true i y e))
      go false e rest = has-cons_other i y ys (eqb-false i y e) ∙ rest

  pub without-end : (ys : List ℕ) → has i ys ≡ false → without i (ys ++ i ∷ []) ≡ ys
  without-end [] absent = ap (λ b. if b then [] else i ∷ []) (eq-eqb i i refl)
  without-end (y ∷ ys) absent =
      let parts = or_parts (eqb i y) (has i ys) absent in
      ap (λ b. if b then without i (ys ++ i ∷ []) else y ∷ without i (ys ++ i ∷ [])) parts.0
      ∙ ap {B = List ℕ} (λ zs. y ∷ zs) (without-end ys parts.1)

  pub before-end : (prev : Option ℕ) (ys : List ℕ) → has i ys ≡ false → before prev i (ys ++ i ∷ []) ≡ last_or prev ys
  before-end prev [] absent = ap (λ b. if b then prev else None) (eq-eqb i i refl)
  before-end prev (y ∷ ys) absent =
      let parts = or_parts (eqb i y) (has i ys) absent in
      ap (λ b. if b then prev else before (Some y) i (ys ++ i ∷ [])) parts.0
      ∙ before-end (Some y) ys parts.1

  pub has-last : (ys : List ℕ) → has i (ys ++ i ∷ []) ≡ true
  has-last [] = has-cons_same i i [] refl
  has-last (y ∷ ys) = or_right (eqb i y) (has i (ys ++ i ∷ [])) (has-last ys)
