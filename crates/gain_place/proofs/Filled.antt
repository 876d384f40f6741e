-- A number that is put at the end of some lists of a table.
use Rattle.std.proofs.Common.{◌≡◌, ◌<◌, ◌+◌, ◌-◌, ℕ, Bool, true, false, List, [], ◌∷◌, ◌++◌, length, get_or, set, take, refl, sym, ap, ◌∙◌, arith, inl, inr}
use Rattle.std.specs.Prelude.{◌==◌, ◌||◌, Some, slice_get, if◌then◌else◌}
use Rattle.std.proofs.lemmas.Bool.{cases_eq, eq-eqb}
use Rattle.std.proofs.lemmas.List.{length-append, length-set, get_or-set_same, get_or-set_other}
use Rattle.std.proofs.lemmas.List.Folds.{list_any_more}
use Rattle.link_rows.specs.Rows.{has}
use Rattle.gain_place.proofs.Ranges.{differ}
use Rattle.gain_place.specs.Lists.{at, is_the, is_last, with_last, put_if, HasUnder}

slice_get_pushed : (xs : List ℕ) (x : ℕ) → slice_get (xs ++ x ∷ []) (length xs) ≡ Some x
slice_get_pushed [] x = refl
slice_get_pushed (y ∷ ys) x = slice_get_pushed ys x

-- what was just put at an end is the last
pub last_pushed : (number : ℕ) (xs : List ℕ) → is_last number (xs ++ number ∷ []) ≡ true
last_pushed number xs =
    let long : length (xs ++ number ∷ []) - 1 ≡ length xs = omega (arith, length-append xs (number ∷ [])) in
    ap (λ k. is_the (slice_get (xs ++ number ∷ []) k) number) long
    ∙ ap (λ o. is_the o number) (slice_get_pushed xs number)
    ∙ eq-eqb number number refl

module _ (old table : List (List ℕ)) (heads : List ℕ) (number i : ℕ) where
  abbrev head : ℕ
  head = get_or heads i 0

  -- one head more
  has_more : i < length heads → (j : ℕ) → has j (take (i + 1) heads) ≡ (has j (take i heads) || (j == head))
  has_more low j = list_any_more (λ k. j == k) heads i 0 low

  module _ (fresh : (j : ℕ) → is_last number (at old j) ≡ false) where
    put_twice : (b : Bool) (xs ys : List ℕ) → is_last number xs ≡ false → ys ≡ put_if b number xs → with_last number ys ≡ put_if true number xs
    put_twice true xs ys not_yet e =
        ap (with_last number) e ∙ ap (λ b. if b then xs ++ number ∷ [] else (xs ++ number ∷ []) ++ number ∷ []) (last_pushed number xs)
    put_twice false xs ys not_yet e = ap (with_last number) e ∙ ap (λ b. if b then xs else xs ++ number ∷ []) not_yet

    pub put_one : i < length heads → head < length table → HasUnder (take i heads) number old table
        → HasUnder (take (i + 1) heads) number old (set table head (with_last number (at table head)))
    put_one low within h = record { count = length-set table head (with_last number (at table head)) ∙ h.count; each = each }
      where
        or_true : (b : Bool) → (b || true) ≡ true
        or_true true = refl
        or_true false = refl

        or_false : (b : Bool) → (b || false) ≡ b
        or_false true = refl
        or_false false = refl

        each : (j : ℕ) → at (set table head (with_last number (at table head))) j ≡ put_if (has j (take (i + 1) heads)) number (at old j)
        each j = elim (cases_eq j head) [
          | inl e ↦
              let here : has j (take (i + 1) heads) ≡ true
              = has_more low j ∙ ap (λ b. has j (take i heads) || b) (eq-eqb j head e) ∙ or_true (has j (take i heads)) in
              ap (at (set table head (with_last number (at table head)))) e
              ∙ get_or-set_same table head (with_last number (at table head)) [] within
              ∙ put_twice (has head (take i heads)) (at old head) (at table head) (fresh head) (h.each head)
              ∙ ap (λ k. put_if true number (at old k)) (sym e)
              ∙ ap (λ b. put_if b number (at old j)) (sym here)
          | inr apart ↦
              let there : has j (take (i + 1) heads) ≡ has j (take i heads)
              = has_more low j ∙ ap (λ b. has j (take i heads) || b) (differ j head apart) ∙ or_false (has j (take i heads)) in
              get_or-set_other table head j (with_last number (at table head)) [] apart
              ∙ h.each j
              ∙ ap (λ b. put_if b number (at old j)) (sym there)
        ]
