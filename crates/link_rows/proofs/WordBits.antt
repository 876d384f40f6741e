-- One bit of the words is set or cleared, and the first clear bit of one word.
use Rattle.std.proofs.Common.{◌≡◌, ℕ, ◌+◌, ◌-◌, ◌*◌, ◌/◌, ◌%◌, ◌^◌, ◌<◌, ◌≤◌, Bool, true, false, if◌then◌else◌, eqb, List, Some, None, length, get_or, set, refl, sym, ap, ◌∙◌, inl, inr, arith, w64}
use Rattle.std.specs.Int.{bit_at, bit_not, trailing_zeros}
use Rattle.std.proofs.lemmas.Bool.{cases_eq, cases_lt, eq-eqb, ne_eqb}
use Rattle.std.proofs.lemmas.List.{get_or-set_same, get_or-set_other}
use Rattle.std.proofs.lemmas.Nat.{shr-shr, shr_le}
use Rattle.std.proofs.lemmas.Nat.Bits.{bit_at-zero, bit_at_not, bit_at-trailing_zeros, bit_at-lt, bit_at_above}
use Rattle.link_rows.specs.Words.{bit_in, IsFirstClearIn}

-- the bit that a truth value stands for
abbrev pub bit_for : Bool → ℕ
bit_for b = if b then 1 else 0

bit_for-is : (b : Bool) → eqb (bit_for b) 1 ≡ b
bit_for-is true = refl
bit_for-is false = refl

-- a word in which one bit is written makes words in which that bit is written
pub bit_in-set : (words : List ℕ) (at k new : ℕ) (value : Bool) → at < 64 * length words → bit_at new (at % 64) ≡ bit_for value
    → ((j : ℕ) → j < 64 → (j ≡ at % 64 → ⊥) → bit_at new j ≡ bit_at (get_or words (at / 64) 0) j)
    → bit_in (set words (at / 64) new) k ≡ (if eqb k at then value else bit_in words k)
bit_in-set words at k new value within here others =
    elim (cases_eq (k / 64) (at / 64)) [
      | inl word ↦
          let read : get_or (set words (at / 64) new) (k / 64) 0 ≡ new = ap (λ n. get_or (set words (at / 64) new) n 0) word ∙ get_or-set_same words (at / 64) new 0 (omega arith) in
          let bit : bit_in (set words (at / 64) new) k ≡ eqb (bit_at new (k % 64)) 1 = ap (λ w. eqb (bit_at w (k % 64)) 1) read in
          elim (cases_eq (k % 64) (at % 64)) [
            | inl place ↦
                let same : k ≡ at = omega arith in
                bit ∙ ap (λ n. eqb (bit_at new n) 1) place ∙ ap (λ n. eqb n 1) here ∙ bit_for-is value ∙ sym (ap (λ b. if b then value else bit_in words k) (eq-eqb k at same))
            | inr other ↦
                let differ : k ≡ at → ⊥ = λ same. other (ap (λ n. n % 64) same) in
                bit ∙ ap (λ n. eqb n 1) (others (k % 64) (omega arith) other) ∙ ap (λ n. eqb (bit_at (get_or words n 0) (k % 64)) 1) (sym word)
                ∙ sym (ap (λ b. if b then value else bit_in words k) (ne_eqb k at differ))
          ]
      | inr other ↦
          let differ : k ≡ at → ⊥ = λ same. other (ap (λ n. n / 64) same) in
          ap (λ w. eqb (bit_at w (k % 64)) 1) (get_or-set_other words (at / 64) (k / 64) new 0 other)
          ∙ sym (ap (λ b. if b then value else bit_in words k) (ne_eqb k at differ))
    ]

module _ (word from : ℕ) (fits : word < 2 ^ 64) (within : from < 64) where
  -- the clear bits from the place on, as ones from bit 0 on
  abbrev pub clear_bits : ℕ
  clear_bits = bit_not w64 word / 2 ^ from

  clear-bit : (j : ℕ) → bit_at clear_bits j ≡ bit_at (bit_not w64 word) (from + j)
  clear-bit j = ap (λ m. m % 2) (shr-shr (bit_not w64 word) from j)

  -- a bit is set just where it is none of those
  set-bit : (k : ℕ) → from ≤ k → k < 64 → bit_at clear_bits (k - from) ≡ 0 → bit_at word k ≡ 1
  set-bit k reached below zero =
      let inverse = bit_at_not w64 word k fits below in
      let back : from + (k - from) ≡ k = omega arith in
      let shifted = clear-bit (k - from) ∙ ap (bit_at (bit_not w64 word)) back in
      omega (arith, inverse, shifted, zero, bit_at-lt word k)

  pub all-set : clear_bits ≡ 0 → IsFirstClearIn word from None
  all-set none k reached below = set-bit k reached below (ap (λ n. bit_at n (k - from)) none ∙ bit_at-zero (k - from))

  pub first-clear : (clear_bits ≡ 0 → ⊥) → IsFirstClearIn word from (Some (from + trailing_zeros w64 clear_bits))
  first-clear some =
      let n = clear_bits in
      let t = trailing_zeros w64 n in
      let positive : 0 < n = omega (arith, some) in
      let small : n < 2 ^ 64 = omega (arith, shr_le (bit_not w64 word) from, fits) in
      let lowest = bit_at-trailing_zeros w64 n positive small in
      let shifted = clear-bit t in
      let below : from + t < 64 =
      elim (cases_lt (from + t) 64) [
        | inl inside ↦ inside
        | inr past ↦ absurd (omega (arith, bit_at_above (bit_not w64 word) 64 (from + t) (omega arith) past, shifted, lowest.1))
      ] in
      let here : bit_at word (from + t) ≡ 0 = omega (arith, bit_at_not w64 word (from + t) fits below, shifted, lowest.1, bit_at-lt word (from + t)) in
      let earlier : (k : ℕ) → from ≤ k → k < from + t → bit_at word k ≡ 1 = λ k reached high. set-bit k reached (omega arith) (lowest.2 (k - from) (omega arith)) in
      (omega arith, below, here, earlier)
