-- Where all gates hold, the values of undriven nets fix all others: gate by gate, in ranked order.
use Rattle.std.proofs.Common.{◌≡◌, ℕ, zero, suc, ◌<◌, arith, List, length, sym, ap, subst, ◌∙◌, inl, inr}
use Rattle.std.specs.Prelude.{◌⊎◌, slice_index, Contains}
use Rattle.std.proofs.lemmas.Bool.{cases_eq}
use Rattle.std.proofs.lemmas.List.{get_or_default, same_lists}
use Rattle.graph_rank.specs.Rows.{row}
use Rattle.gate_pass.specs.Gates.{PassState, AreRanked, NoneDrives, AllHold, ValuesAreUnique, value_on, turn_gives}
use Rattle.gate_pass.proofs.Members.{contains_or_not, same_images}

-- a gate drives the net, or none does
pub driven_or_free : (outputs : List ℕ) (n : ℕ) → ((k : ℕ) × (k < length outputs) × (slice_index outputs k ≡ n)) ⊎ NoneDrives outputs n
driven_or_free outputs n =
    elim (contains_or_not outputs n) [
      | inl has ↦ inl (has.0, has.1, get_or_default outputs has.0 0 n has.1 ∙ has.2)
      | inr none ↦ inr (λ k low e. none (k, low, get_or_default outputs k n 0 low ∙ e))
    ]

module _ {T : Type 0} (none : T) (gives : ℕ → List T → T) (s t : PassState T) (ranked : AreRanked (length s.values) s.inputs s.outputs)
    (inputs : t.inputs ≡ s.inputs) (outputs : t.outputs ≡ s.outputs) (free : (n : ℕ) → NoneDrives s.outputs n → value_on none t.values n ≡ value_on none s.values n)
    (s_holds : AllHold gives none s) (t_holds : AllHold gives none t) where
  -- the outputs of the first gates agree
  agree : (count k : ℕ) → k < count → k < length s.outputs → value_on none t.values (slice_index s.outputs k) ≡ value_on none s.values (slice_index s.outputs k)
  agree zero k less low = absurd (omega (arith, less))
  agree (suc count) k less low = go (agree count) (cases_eq k count)
    where
      go : ((j : ℕ) → j < count → j < length s.outputs → value_on none t.values (slice_index s.outputs j) ≡ value_on none s.values (slice_index s.outputs j))
          → (k ≡ count) ⊎ (k ≡ count → ⊥) → value_on none t.values (slice_index s.outputs k) ≡ value_on none s.values (slice_index s.outputs k)
      go before (inr other) = before k (omega (arith, less, other)) low
      go before (inl same) =
          let low_t : k < length t.outputs = subst (λ (o : List ℕ). k < length o) (sym outputs) low in
          let reads : (n : ℕ) → Contains (row s.inputs k) n → value_on none t.values n ≡ value_on none s.values n =
          λ n has. elim (driven_or_free s.outputs n) [
            | inl by ↦
                let driver : Contains (row s.inputs k) (slice_index s.outputs by.0) = subst (Contains (row s.inputs k)) (sym by.2) has in
                subst (λ (m : ℕ). value_on none t.values m ≡ value_on none s.values m) by.2
                (before by.0 (omega (arith, same, ranked.later by.0 k by.1 driver)) by.1)
            | inr undriven ↦ free n undriven
          ] in
          ap (λ (o : List ℕ). value_on none t.values (slice_index o k)) (sym outputs)
          ∙ t_holds k low_t
          ∙ ap (λ (i : List (List ℕ)). turn_gives gives none i t.values k) inputs
          ∙ ap (gives k) (same_images (value_on none t.values) (value_on none s.values) (row s.inputs k) reads)
          ∙ sym (s_holds k low)

  pub same_values : length t.values ≡ length s.values → t.values ≡ s.values
  same_values size =
      same_lists t.values s.values size
      (λ n d low.
      let low_s : n < length s.values = omega (arith, low, size) in
      get_or_default t.values n d none low ∙ same n ∙ get_or_default s.values n none d low_s)
    where
      same : (n : ℕ) → value_on none t.values n ≡ value_on none s.values n
      same n =
          elim (driven_or_free s.outputs n) [
            | inl by ↦ subst (λ (m : ℕ). value_on none t.values m ≡ value_on none s.values m) by.2 (agree (length s.outputs) by.0 by.1 by.1)
            | inr undriven ↦ free n undriven
          ]

pub values_are_unique : {T : Type 0} (none : T) → ValuesAreUnique none
values_are_unique none gives s t ranked inputs outputs size free s_holds t_holds =
    same_values none gives s t ranked inputs outputs free s_holds t_holds size
