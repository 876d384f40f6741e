-- The worked case computes.
use Rattle.std.proofs.Common.{◌≡◌, ◌<◌, ◌+◌, ◌^◌, ℕ, Bool, true, false, not, List, [], ◌∷◌, refl, sym, ap, ◌∙◌, arith, inl, inr}
use Rattle.std.specs.Prelude.{◌==◌, ◌||◌, ◌&&◌, count_by}
use Rattle.std.proofs.lemmas.Bool.{cases_eq}
use Rattle.std.proofs.lemmas.List.Sums.{sum_by-cons}
use Rattle.gain_place.specs.Cut.{chip_numbers, crossings, cut}
use Rattle.gain_place.specs.Worked.{chip, example, start, ExampleHolds}
use Rattle.gain_place.proofs.Ranges.{differ, one_chip_more}
use Rattle.gain_place.proofs.Trades.{gain_is}

none_counted : (xs : List ℕ) → count_by (λ (c : ℕ). false) xs ≡ 0
none_counted [] = refl
none_counted (x ∷ xs) = sum_by-cons (λ (c : ℕ). 0) x xs ∙ ap (λ k. 0 + k) (none_counted xs)

no_readers : (f : ℕ → Bool) → ((c : ℕ) → f c ≡ false) → count_by f chip_numbers ≡ 0
no_readers f h = ap (λ g. count_by g chip_numbers) (λ i c. h c i) ∙ none_counted chip_numbers

one_reader : (f : ℕ → Bool) (a : ℕ) → a < 2 ^ 32 → ((c : ℕ) → f c ≡ (a == c)) → count_by f chip_numbers ≡ 1
one_reader f a small h =
    ap (λ g. count_by g chip_numbers) (λ i c. h c i) ∙ one_chip_more (λ c. false) a small refl ∙ ap (λ k. k + 1) (none_counted chip_numbers)

-- what reads on the chips of the three elements, by whether each reads the net
unread : (x y z h : Bool) → (((x && false) || ((y && false) || ((z && false) || false))) && h) ≡ false
unread true true true h = refl
unread true true false h = refl
unread true false true h = refl
unread true false false h = refl
unread false true true h = refl
unread false true false h = refl
unread false false true h = refl
unread false false false h = refl

at_home : (x y z : Bool) → (((x && false) || ((y && false) || ((z && true) || false))) && not z) ≡ false
at_home true true true = refl
at_home true true false = refl
at_home true false true = refl
at_home true false false = refl
at_home false true true = refl
at_home false true false = refl
at_home false false true = refl
at_home false false false = refl

away : (c : ℕ) → ((((0 == c) && false) || (((0 == c) && false) || (((1 == c) && true) || false))) && not (0 == c)) ≡ (1 == c)
away c = elim (cases_eq 1 c) [
  | inl e ↦ go (0 == c) (1 == c) (differ 0 c (λ q. omega arith))
  | inr apart ↦ other (0 == c) (1 == c) (differ 1 c apart)
]
  where
    go : (x z : Bool) → x ≡ false → (((x && false) || ((x && false) || ((z && true) || false))) && not x) ≡ z
    go x true e = ap (λ b. (((b && false) || ((b && false) || true)) && not b)) e
    go x false e = ap (λ b. (((b && false) || ((b && false) || false)) && not b)) e

    other : (x z : Bool) → z ≡ false → (((x && false) || ((x && false) || ((z && true) || false))) && not x) ≡ z
    other true z e = ap (λ b. (((b && true) || false) && false)) e ∙ sym e
    other false z e = ap (λ b. (((b && true) || false) && true)) e ∙ sym e

cut_before : cut example start ≡ 1
unfolding cut
cut_before =
    let y : crossings example start 3 ≡ 0 = no_readers _ (λ c. unread (0 == c) (0 == c) (1 == c) (not (1 == c))) in
    let m : crossings example start 4 ≡ 0 = no_readers _ (λ c. unread (0 == c) (0 == c) (1 == c) (not (0 == c))) in
    let n : crossings example start 5 ≡ 1 = one_reader _ 1 (omega arith) away in
    ap (λ k. 0 + k + crossings example start 4 + crossings example start 5) y
    ∙ ap (λ k. 0 + k + crossings example start 5) m ∙ ap (λ k. 0 + k) n

cut_after : cut example (chip 1 ∷ chip 0 ∷ chip 1 ∷ []) ≡ 0
unfolding cut
cut_after =
    let y : crossings example (chip 1 ∷ chip 0 ∷ chip 1 ∷ []) 3 ≡ 0 = no_readers _ (λ c. unread (1 == c) (0 == c) (1 == c) (not (1 == c))) in
    let m : crossings example (chip 1 ∷ chip 0 ∷ chip 1 ∷ []) 4 ≡ 0 = no_readers _ (λ c. unread (1 == c) (0 == c) (1 == c) (not (0 == c))) in
    let n : crossings example (chip 1 ∷ chip 0 ∷ chip 1 ∷ []) 5 ≡ 0 = no_readers _ (λ c. at_home (1 == c) (0 == c) (1 == c)) in
    ap (λ k. 0 + k + crossings example (chip 1 ∷ chip 0 ∷ chip 1 ∷ []) 4 + crossings example (chip 1 ∷ chip 0 ∷ chip 1 ∷ []) 5) y
    ∙ ap (λ k. 0 + k + crossings example (chip 1 ∷ chip 0 ∷ chip 1 ∷ []) 5) m ∙ ap (λ k. 0 + k) n

pub example_holds : ExampleHolds
example_holds = (
  cut_before,
  cut_after,
  sym (gain_is example start (record { elem = record { place = 0 }; to = chip 1 }) 1 0
      (ap (λ k. k + 0) cut_before ∙ sym (ap (λ k. k + 1) cut_after))),
)
