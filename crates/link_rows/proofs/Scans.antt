-- The bits of the words are gone through from a place on.
use Rattle.std.proofs.Common.{◌≡◌, ℕ, ◌+◌, ◌-◌, ◌/◌, ◌%◌, ◌<◌, ◌≤◌, true, false, eqb, List, Some, None, get_or, ap, ◌∙◌, inl, inr, arith}
use Rattle.std.specs.Int.{bit_at}
use Rattle.std.proofs.lemmas.Bool.{cases_lt}
use Rattle.link_rows.specs.Words.{bit_in, IsFirstClearIn, IsFirstClearBelow}

-- all bits from a place on up to another are set
pub record Scanned (words : List ℕ) (from at : ℕ) : Type 0 where
  pub reached : from ≤ at
  pub set : (k : ℕ) → from ≤ k → k < at → bit_in words k ≡ true

pub scanned-start : (words : List ℕ) (from : ℕ) → Scanned words from from
scanned-start words from = record { reached = omega arith; set = λ k low high. absurd (omega arith) }

-- a bit of the word at a place
bit_of_word : (words : List ℕ) (at k : ℕ) → k / 64 ≡ at / 64 → bit_in words k ≡ eqb (bit_at (get_or words (at / 64) 0) (k % 64)) 1
bit_of_word words at k same = ap (λ n. eqb (bit_at (get_or words n 0) (k % 64)) 1) same

-- the rest of a word is set
pub scanned-word : (words : List ℕ) (from at : ℕ) → Scanned words from at → IsFirstClearIn (get_or words (at / 64) 0) (at % 64) None → Scanned words from (at - at % 64 + 64)
scanned-word words from at scanned none = record {
  reached = omega (arith, scanned.reached);
  set = λ k low high. elim (cases_lt k at) [
    | inl early ↦ scanned.set k low early
    | inr late ↦ bit_of_word words at k (omega arith) ∙ ap (λ b. eqb b 1) (none (k % 64) (omega arith) (omega arith))
  ];
}

-- the word has a clear bit
module _ (words : List ℕ) (width from at clear : ℕ) (scanned : Scanned words from at) (some : IsFirstClearIn (get_or words (at / 64) 0) (at % 64) (Some clear)) where
  before : (k : ℕ) → from ≤ k → k < at - at % 64 + clear → bit_in words k ≡ true
  before k low high =
      elim (cases_lt k at) [
        | inl early ↦ scanned.set k low early
        | inr late ↦ bit_of_word words at k (omega (arith, some.1)) ∙ ap (λ b. eqb b 1) (some.3 (k % 64) (omega (arith, some.1)) (omega (arith, some.1)))
      ]

  pub found-below : at - at % 64 + clear < width → IsFirstClearBelow words width from (Some (at - at % 64 + clear))
  found-below within =
      let place = at - at % 64 + clear in
      let low : from ≤ place = omega (arith, scanned.reached, some.0) in
      let here : bit_in words place ≡ false =
      bit_of_word words at place (omega (arith, some.1)) ∙ ap (λ n. eqb (bit_at (get_or words (at / 64) 0) n) 1) (omega (arith, some.1)) ∙ ap (λ b. eqb b 1) some.2 in
      (low, within, here, before)

  pub found-beyond : width ≤ at - at % 64 + clear → IsFirstClearBelow words width from None
  found-beyond beyond k low high = before k low (omega arith)

-- all bits below the width are set
pub scanned-end : (words : List ℕ) (width from at : ℕ) → Scanned words from at → width ≤ at → IsFirstClearBelow words width from None
scanned-end words width from at scanned past k low high = scanned.set k low (omega arith)
