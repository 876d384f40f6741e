-- One list of items: what it has, what follows and precedes an item, and an item taken out.
use Rattle.std.proofs.Common.{◌≡◌, ℕ, Bool, true, false, ◌||◌, if◌then◌else◌, eqb, ◌⊎◌, List, [], ◌∷◌, refl, sym, ap, ◌∙◌, inl, inr}
use Rattle.std.proofs.lemmas.Bool.{eqb-true, eqb-false, eq-eqb, ne_eqb, or_parts, true≢false}
use Rattle.link_rows.specs.Rows.{has, without, IsApart}

-- another item may be left off
pub has-cons_other : (k x : ℕ) (xs : List ℕ) → (k ≡ x → ⊥) → has k (x ∷ xs) ≡ has k xs
has-cons_other k x xs other = ap (λ b. b || has k xs) (ne_eqb k x other)

pub has-cons_same : (k x : ℕ) (xs : List ℕ) → k ≡ x → has k (x ∷ xs) ≡ true
has-cons_same k x xs same = ap (λ b. b || has k xs) (eq-eqb k x same)

-- an item of a list is its first, or among the others
pub has-cases : (k x : ℕ) (xs : List ℕ) → has k (x ∷ xs) ≡ true → (k ≡ x) ⊎ ((k ≡ x → ⊥) × (has k xs ≡ true))
has-cases k x xs here = go (eqb k x) refl
  where
    go : (b : Bool) → eqb k x ≡ b → (k ≡ x) ⊎ ((k ≡ x → ⊥) × (has k xs ≡ true))
    go true e = inl (eqb-true k x e)
    go false e = inr (eqb-false k x e, sym (ap (λ b. b || has k xs) e) ∙ here)

-- what has an item has none that it lacks
pub has-differ : (k i : ℕ) (xs : List ℕ) → has k xs ≡ true → has i xs ≡ false → k ≡ i → ⊥
has-differ k i xs here absent same =
    true≢false (sym here ∙ ap (λ n. has n xs) same ∙ absent)

module _ (i : ℕ) where
  pub has-without_same : (xs : List ℕ) → has i (without i xs) ≡ false
  has-without_same [] = refl
  has-without_same (x ∷ xs) = go (eqb i x) refl (has-without_same xs)
    where
      go : (b : Bool) → eqb i x ≡ b → has i (without i xs) ≡ false → has i (if b then without i xs else x ∷ without i xs) ≡ false
      go true e rest = rest
      go false e rest = λ j. e j || rest j

  pub has-without_other : (k : ℕ) (xs : List ℕ) → (k ≡ i → ⊥) → has k (without i xs) ≡ has k xs
  has-without_other k [] other = refl
  has-without_other k (x ∷ xs) other = go (eqb i x) refl (has-without_other k xs other)
    where
      go : (b : Bool) → eqb i x ≡ b → has k (without i xs) ≡ has k xs → has k (if b then without i xs else x ∷ without i xs) ≡ has k (x ∷ xs)
      go true e rest = rest ∙ sym (has-cons_other k x xs (λ same. other (same ∙ sym (eqb-true i x e))))
      go false e rest = ap (λ b. eqb k x || b) rest

  -- an item that is not there leaves the list
  pub without-absent : (xs : List ℕ) → has i xs ≡ false → without i xs ≡ xs
  without-absent [] absent = refl
  without-absent (x ∷ xs) absent =
      let parts = or_parts (eqb i x) (has i xs) absent in
      ap (λ b. if b then without i xs else x ∷ without i xs) parts.0
      ∙ ap {B = List ℕ} (λ ys. x ∷ ys) (without-absent xs parts.1)

  pub IsApart-without : (xs : List ℕ) → IsApart xs → IsApart (without i xs)
  IsApart-without [] apart = tt
  IsApart-without (x ∷ xs) apart = go (eqb i x) refl (IsApart-without xs apart.1)
    where
      go : (b : Bool) → eqb i x ≡ b → IsApart (without i xs) → IsApart (if b then without i xs else x ∷ without i xs)
      go true e rest = rest
      go false e rest = (has-without_other x xs (λ same. eqb-false i x e (sym same)) ∙ apart.0, rest)
