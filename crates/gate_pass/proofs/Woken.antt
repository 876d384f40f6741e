-- Gates of a list are woken one after the other.
use Rattle.std.proofs.Common.{◌≡◌, ℕ, ◌+◌, ◌<◌, arith, Bool, false, List, length, set, replicate, sym, ap, ◌∙◌, inl, inr}
use Rattle.std.specs.Prelude.{◌⊎◌, Some, slice_get, Contains}
use Rattle.std.proofs.lemmas.Bool.{cases_eq}
use Rattle.std.proofs.lemmas.List.{length-set, length-replicate, get_or-set_same, get_or-set_other, get_or-replicate, get_or_default, same_lists}
use Rattle.std.proofs.lemmas.Option.{same_Some, slice_get_within}
use Rattle.facts.proofs.Places.{contains_at, at_contains}
use Rattle.link_rows.specs.BitRows.{is_set}
use Rattle.gate_pass.specs.Inside.{AreWoken, AreWokenTo}

module _ (gates : List ℕ) (old : List Bool) where
  module _ (place gate : ℕ) (at : slice_get gates place ≡ Some gate) (idle : List Bool) (low : gate < length idle) where
    here : is_set (set idle gate false) gate ≡ false
    here = get_or-set_same idle gate false false low

    there : (k : ℕ) → (k ≡ gate → ⊥) → is_set (set idle gate false) k ≡ is_set idle k
    there k other = get_or-set_other idle gate k false false other

    still_false : (k : ℕ) → is_set idle k ≡ false → is_set (set idle gate false) k ≡ false
    still_false k h =
        elim (cases_eq k gate) [ inl e ↦ ap (is_set (set idle gate false)) e ∙ here | inr other ↦ there k other ∙ h ]

    pub one_woken : AreWokenTo gates place old idle → AreWokenTo gates (place + 1) old (set idle gate false)
    one_woken h =
        record {
          size = length-set idle gate false ∙ h.size;
          woken = λ j k less is. woken j k less is (cases_eq j place);
          still = λ k was. still_false k (h.still k was);
          only = λ k is. only k is (cases_eq k gate);
        }
      where
        woken : (j k : ℕ) → j < place + 1 → slice_get gates j ≡ Some k → (j ≡ place) ⊎ (j ≡ place → ⊥) → is_set (set idle gate false) k ≡ false
        woken j k less is (inl same) =
            let same_gate : k ≡ gate = same_Some k gate (sym is ∙ ap (slice_get gates) same ∙ at) in
            ap (is_set (set idle gate false)) same_gate ∙ here
        woken j k less is (inr other) = still_false k (h.woken j k (omega (arith, less, other)) is)

        only : (k : ℕ) → is_set (set idle gate false) k ≡ false → (k ≡ gate) ⊎ (k ≡ gate → ⊥) → (is_set old k ≡ false) ⊎ Contains gates k
        only k is (inl same) = inr (contains_at gates place k (at ∙ ap Some (sym same)))
        only k is (inr other) = h.only k (sym (there k other) ∙ is)

  pub all_woken : (place : ℕ) (idle : List Bool) → length gates ≡ place → AreWokenTo gates place old idle → AreWoken gates old idle
  all_woken place idle whole h =
      record {
        size = h.size;
        woken = λ k has. let at = at_contains gates k has in h.woken at.0 k (omega (arith, whole, slice_get_within gates at.0 k at.1)) at.1;
        still = h.still;
        only = h.only;
      }

-- bits of which each is clear
pub all_clear : (bits : List Bool) (count : ℕ) → length bits ≡ count → ((k : ℕ) → k < length bits → is_set bits k ≡ false) → bits ≡ replicate count false
all_clear bits count size clear =
    same_lists bits (replicate count false) (size ∙ sym (length-replicate count false))
    (λ k d low.
    let within : k < count = omega (arith, low, size) in
    get_or_default bits k d false low ∙ clear k low ∙ sym (get_or-replicate count k false d within))
