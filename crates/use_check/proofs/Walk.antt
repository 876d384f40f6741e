-- A walk over the parts of a whole, in order of their numbers, finds the least place of the whole.
use Rattle.std.proofs.Common.{◌≡◌, ◌<◌, ◌≤◌, ◌+◌, ◌⊎◌, ℕ, List, [], ◌∷◌, ◌++◌, length, Option, None, Some, inl, inr, refl, sym, subst, ap, ◌∙◌, arith}
use Rattle.std.proofs.lemmas.Bool.{cases_eq, cases_lt}
use Rattle.emu_machine.specs.declared.place.Place.{Place}
use Rattle.emu_machine.specs.Acceptance.{place_key, Precedes}
use Rattle.use_check.specs.Least.{Begins, IsLeast, IsLeastUnder}

-- no key comes before itself
pub no_less : (key : List ℕ) → Precedes key key → ⊥
no_less [] p = p
no_less (a ∷ key) (inl less) = absurd (omega (arith, less))
no_less (a ∷ key) (inr same) = no_less key same.1

begins_shorter : (front : List ℕ) (k : ℕ) (key : List ℕ) → Begins (front ++ k ∷ []) key → Begins front key
begins_shorter [] k key b = tt
begins_shorter (a ∷ front) k [] b = b
begins_shorter (a ∷ front) k (c ∷ key) b = (b.0, begins_shorter front k key b.1)

-- the number behind the front of a longer key
next_number : (front key : List ℕ) → Begins front key → length front < length key → (j : ℕ) × Begins (front ++ j ∷ []) key
next_number [] [] b long = absurd (omega (arith, long))
next_number [] (c ∷ key) b long = (c, (refl, tt))
next_number (a ∷ front) [] b long = absurd b
next_number (a ∷ front) (c ∷ key) b long =
    let low : length front < length key = omega (arith, long) in
    let rest : (j : ℕ) × Begins (front ++ j ∷ []) key = next_number front key b.1 low in
    (rest.0, (b.0, rest.1))

-- of two keys with one front the lesser has no greater number behind it
in_order : (front : List ℕ) (j k : ℕ) (other key : List ℕ) → Begins (front ++ j ∷ []) other → Begins (front ++ k ∷ []) key → Precedes other key → j ≤ k
in_order [] j k [] key b d p = absurd b
in_order [] j k (x ∷ other) [] b d p = absurd p
in_order [] j k (x ∷ other) (y ∷ key) b d (inl less) = omega (arith, b.0, d.0, less)
in_order [] j k (x ∷ other) (y ∷ key) b d (inr same) = omega (arith, b.0, d.0, same.0)
in_order (a ∷ front) j k [] key b d p = absurd b
in_order (a ∷ front) j k (x ∷ other) [] b d p = absurd p
in_order (a ∷ front) j k (x ∷ other) (y ∷ key) b d (inl less) = absurd (omega (arith, b.0, d.0, less))
in_order (a ∷ front) j k (x ∷ other) (y ∷ key) b d (inr same) = in_order front j k other key b.1 d.1 same.1

-- a key that is no longer than its front is the front
whole_key : (front key : List ℕ) → Begins front key → length key ≤ length front → key ≡ front
whole_key [] [] b short = refl
whole_key [] (c ∷ key) b short = absurd (omega (arith, short))
whole_key (a ∷ front) [] b short = absurd b
whole_key (a ∷ front) (c ∷ key) b short =
    let low : length key ≤ length front = omega (arith, short) in
    ap (λ (x : ℕ). x ∷ key) (sym b.0) ∙ ap (λ (rest : List ℕ). a ∷ rest) (whole_key front key b.1 low)

-- a rule fails at places alone whose keys are longer than so many numbers, or have just so many
abbrev pub Longer : (Place → Type 0) → ℕ → Type 0
Longer fails n = (at : Place) → fails at → n < length (place_key at)

abbrev pub Just : (Place → Type 0) → ℕ → Type 0
Just fails n = (at : Place) → fails at → length (place_key at) ≡ n

module _ (fails : Place → Type 0) (front : List ℕ) where
  -- nothing fails in the first parts
  abbrev pub NoneBefore : ℕ → Type 0
  NoneBefore k = (j : ℕ) → j < k → IsLeastUnder fails (front ++ j ∷ []) None

  pub more : (k n : ℕ) → NoneBefore k → IsLeastUnder fails (front ++ k ∷ []) None → n ≡ k + 1 → NoneBefore n
  more k n before here one j low = go (cases_eq j k)
    where
      go : (j ≡ k) ⊎ (j ≡ k → ⊥) → IsLeastUnder fails (front ++ j ∷ []) None
      go (inl same) = subst (λ (i : ℕ). IsLeastUnder fails (front ++ i ∷ []) None) (sym same) here
      go (inr other) = before j (omega (arith, other))

  module _ (long : Longer fails (length front)) where
    part_of : (at : Place) → Begins front (place_key at) → fails at → (j : ℕ) × Begins (front ++ j ∷ []) (place_key at)
    part_of at b f = next_number front (place_key at) b (long at f)

    -- the least place of the first part that has one is that of the whole
    pub found : (k : ℕ) (at : Place) → NoneBefore k → IsLeastUnder fails (front ++ k ∷ []) (Some at) → IsLeastUnder fails front (Some at)
    found k at before least = (begins_shorter front k (place_key at) least.0, least.1, none)
      where
        none : (other : Place) → Begins front (place_key other) → Precedes (place_key other) (place_key at) → fails other → ⊥
        none other b p f =
            let part : (j : ℕ) × Begins (front ++ j ∷ []) (place_key other) = part_of other b f in
            let low : part.0 ≤ k = in_order front part.0 k (place_key other) (place_key at) part.1 least.0 p in
            go part.0 part.1 low (cases_eq part.0 k)
          where
            go : (j : ℕ) → Begins (front ++ j ∷ []) (place_key other) → j ≤ k → (j ≡ k) ⊎ (j ≡ k → ⊥) → ⊥
            go j here low (inl same) =
                least.2 other (subst (λ (i : ℕ). Begins (front ++ i ∷ []) (place_key other)) same here) p f
            go j here low (inr apart) = before j (omega (arith, apart)) other here f

    -- the same of what was found in that part
    pub found_in : (k : ℕ) (o : Option Place) (at : Place) → NoneBefore k → IsLeastUnder fails (front ++ k ∷ []) o → o ≡ Some at → IsLeastUnder fails front (Some at)
    found_in k o at before least is =
        found k at before (subst (λ (x : Option Place). IsLeastUnder fails (front ++ k ∷ []) x) is least)

    -- where no part has a place, and no number is behind the last part, the whole has none
    pub nowhere : (k : ℕ) → NoneBefore k → ((j : ℕ) → k ≤ j → IsLeastUnder fails (front ++ j ∷ []) None) → IsLeastUnder fails front None
    nowhere k before past at b f =
        let part : (j : ℕ) × Begins (front ++ j ∷ []) (place_key at) = part_of at b f in
        go part.0 part.1 (cases_lt part.0 k)
      where
        go : (j : ℕ) → Begins (front ++ j ∷ []) (place_key at) → (j < k) ⊎ (k ≤ j) → ⊥
        go j here (inl low) = before j low at here f
        go j here (inr high) = past j high at here f

  -- a place whose key is the front alone is the least under it
  pub here : (at : Place) → Just fails (length front) → place_key at ≡ front → Begins front (place_key at) → fails at → IsLeastUnder fails front (Some at)
  here at just is b f = (b, f, none)
    where
      none : (other : Place) → Begins front (place_key other) → Precedes (place_key other) (place_key at) → fails other → ⊥
      none other c p g =
          let short : length (place_key other) ≤ length front = omega (arith, just other g) in
          let same : place_key other ≡ place_key at = whole_key front (place_key other) c short ∙ sym is in
          no_less (place_key at) (subst (λ (key : List ℕ). Precedes key (place_key at)) same p)

-- the least place under no number is the least of all
pub least_some : (fails : Place → Type 0) (at : Place) → IsLeastUnder fails [] (Some at) → IsLeast fails (Some at)
least_some fails at least = (least.1, λ other p f. least.2 other tt p f)

pub least_none : (fails : Place → Type 0) → IsLeastUnder fails [] None → IsLeast fails None
least_none fails least = λ at f. least at tt f

-- the least place of all that was found in one part
pub least_found : (fails : Place → Type 0) → Longer fails 0 → (k : ℕ) (o : Option Place) (at : Place) → NoneBefore fails [] k → IsLeastUnder fails (k ∷ []) o → o ≡ Some at → IsLeast fails (Some at)
least_found fails long k o at before least is = least_some fails at (found_in fails [] long k o at before least is)
