-- Offered to the crates above: where nets are set once at most between two passes, just gates of which an input has
-- another value after the second than after the first have turns in it; and how many these can be.
use Rattle.std.proofs.Common.{◌≡◌, ℕ, zero, suc, ◌+◌, ◌<◌, ◌≤◌, arith, Bool, true, false, List, [], ◌∷◌, ◌++◌, length, cond, refl, sym, ap, subst, ◌∙◌, inl, inr}
use Rattle.std.specs.Prelude.{◌⊎◌, ◌≢◌, slice_index, Contains}
use Rattle.std.specs.List.{range_with_len, count_by}
use Rattle.std.proofs.lemmas.Bool.{cases_eq}
use Rattle.std.proofs.lemmas.List.{length-set, get_or-set_same, get_or-set_other}
use Rattle.std.proofs.lemmas.List.Sums.{sum_by-append}
use Rattle.link_rows.specs.BitRows.{is_set}
use Rattle.graph_rank.specs.Rows.{row}
use Rattle.gate_pass.specs.Gates.{PassState, NoneDrives, NoneWaits, NetHasTaken, HasSettled, IsDue, WereDue, AreFalling, value_on}
use Rattle.gate_pass.specs.Since.{IsSince, HasOtherInput}
use Rattle.gate_pass.proofs.Members.{contains_head, contains_tail, head_or_tail, never_both}
use Rattle.gate_pass.proofs.Unique.{driven_or_free}

module _ {T : Type 0} (none : T) where
  -- nothing has been set since a pass
  pub none_since : (s : PassState T) → NoneWaits s → IsSince none s s
  none_since s rests =
      record {
        inputs = refl;
        outputs = refl;
        nets = refl;
        driven = λ k low. refl;
        waits = λ k low waits. never_both (is_set s.idle k) (rests k low) waits;
      }

  -- one net more is set, which had the value of then
  pub set_since : (n : ℕ) (value : T) (old mid new : PassState T) → IsSince none old mid → n < length mid.values → NoneDrives mid.outputs n
      → value_on none mid.values n ≡ value_on none old.values n → NetHasTaken none n value mid new → IsSince none old new
  set_since n value old mid new h low free same taken =
      record {
        inputs = taken.inputs ∙ h.inputs;
        outputs = taken.outputs ∙ h.outputs;
        nets = ap length taken.values ∙ length-set mid.values n value ∙ h.nets;
        driven = λ k low_k. elsewhere (slice_index old.outputs k) (free_old k low_k) ∙ h.driven k low_k;
        waits = waits;
      }
    where
      here : value_on none new.values n ≡ value
      here = ap (λ (v : List T). value_on none v n) taken.values ∙ get_or-set_same mid.values n value none low

      elsewhere : (m : ℕ) → (m ≡ n → ⊥) → value_on none new.values m ≡ value_on none mid.values m
      elsewhere m other = ap (λ (v : List T). value_on none v m) taken.values ∙ get_or-set_other mid.values n m value none other

      free_old : NoneDrives old.outputs n
      free_old = subst (λ (o : List ℕ). NoneDrives o n) h.outputs free

      waits : (k : ℕ) → k < length old.outputs → is_set new.idle k ≡ false
          → (m : ℕ) × NoneDrives old.outputs m × Contains (row old.inputs k) m × (value_on none new.values m ≢ value_on none old.values m)
      waits k low_k waits_now = go (taken.only k waits_now)
        where
          go : (is_set mid.idle k ≡ false) ⊎ (Contains (row mid.inputs k) n × (value_on none mid.values n ≢ value))
              → (m : ℕ) × NoneDrives old.outputs m × Contains (row old.inputs k) m × (value_on none new.values m ≢ value_on none old.values m)
          go (inl waited) =
              let w = h.waits k low_k waited in
              let other : w.0 ≡ n → ⊥ = λ e. w.3 (ap (value_on none mid.values) e ∙ same ∙ ap (value_on none old.values) (sym e)) in
              (w.0, w.1, w.2, λ e. w.3 (sym (elsewhere w.0 other) ∙ e))
          go (inr read) = (
            n,
            free_old,
            subst (λ (i : List (List ℕ)). Contains (row i k) n) h.inputs read.0,
            λ e. read.1 (same ∙ sym e ∙ here),
          )

  -- a gate that has a turn then has an input with another value than after the pass before
  pub turn_since : (gives : ℕ → List T → T) (old mid new : PassState T) (turns : List ℕ) → IsSince none old mid → HasSettled gives none mid new → WereDue none mid new turns
      → (k : ℕ) → Contains turns k → HasOtherInput none old new k
  turn_since gives old mid new turns h settled were k has = go (were.due k has)
    where
      low : k < length old.outputs
      low = subst (λ (o : List ℕ). k < length o) h.outputs (were.there k has)

      as_before : (n : ℕ) → NoneDrives old.outputs n → value_on none new.values n ≡ value_on none mid.values n
      as_before n free = settled.free n (subst (λ (o : List ℕ). NoneDrives o n) (sym h.outputs) free)

      go : IsDue none mid new k → HasOtherInput none old new k
      go (inl waited) =
          let w = h.waits k low waited in
          (w.0, w.2, λ e. w.3 (sym (as_before w.0 w.1) ∙ e))
      go (inr due) = (due.0, subst (λ (i : List (List ℕ)). Contains (row i k) due.0) h.inputs due.1, other (driven_or_free old.outputs due.0))
        where
          other : ((j : ℕ) × (j < length old.outputs) × (slice_index old.outputs j ≡ due.0)) ⊎ NoneDrives old.outputs due.0 → value_on none new.values due.0 ≢ value_on none old.values due.0
          other (inl by) = λ e. due.2 (e ∙ sym (subst (λ (m : ℕ). value_on none mid.values m ≡ value_on none old.values m) by.2 (h.driven by.0 by.1)))
          other (inr free) = λ e. due.2 (as_before due.0 free)

-- ## How many turns there can be

range_more : (a n : ℕ) → range_with_len a (suc n) ≡ range_with_len a n ++ (a + n) ∷ []
range_more a zero = let e : a ≡ a + 0 = omega arith in ap (λ (k : ℕ). k ∷ []) e
range_more a (suc n) =
    let e : a + 1 + n ≡ a + suc n = omega arith in
    ap (λ (ks : List ℕ). a ∷ ks) (range_more (a + 1) n ∙ ap (λ (k : ℕ). range_with_len (a + 1) n ++ k ∷ []) e)

module _ (p : ℕ → Bool) where
  count_more : (n : ℕ) → count_by p (range_with_len 0 (suc n)) ≡ count_by p (range_with_len 0 n) + (cond (p n) 1 0)
  count_more n =
      let end : 0 + n ≡ n = omega arith in
      let pushed : count_by p (range_with_len 0 (suc n)) ≡ count_by p (range_with_len 0 n ++ n ∷ []) =
      ap (count_by p) (range_more 0 n ∙ ap (λ (k : ℕ). range_with_len 0 n ++ k ∷ []) end) in
      let split : count_by p (range_with_len 0 n ++ n ∷ []) ≡ count_by p (range_with_len 0 n) + (0 + cond {A = ℕ} (p n) 1 0) =
      sum_by-append (λ (k : ℕ). cond {A = ℕ} (p k) 1 0) (range_with_len 0 n) (n ∷ []) in
      omega (arith, pushed, split)

  -- turns of gates below a number that pass a test are no more than the gates below it that do
  pub turns_are_few : (gates : ℕ) (turns : List ℕ) → AreFalling turns → ((k : ℕ) → Contains turns k → k < gates) → ((k : ℕ) → Contains turns k → p k ≡ true)
      → length turns ≤ count_by p (range_with_len 0 gates)
  turns_are_few gates [] falling low pass = omega arith
  turns_are_few zero (x ∷ xs) falling low pass = absurd (omega (arith, low x (contains_head x xs)))
  turns_are_few (suc gates) (x ∷ xs) falling low pass = go (turns_are_few gates) (cases_eq x gates)
    where
      go : ((turns : List ℕ) → AreFalling turns → ((k : ℕ) → Contains turns k → k < gates) → ((k : ℕ) → Contains turns k → p k ≡ true) → length turns ≤ count_by p (range_with_len 0 gates))
          → (x ≡ gates) ⊎ (x ≡ gates → ⊥) → length (x ∷ xs) ≤ count_by p (range_with_len 0 (suc gates))
      go below (inl same) =
          let passes : ◌≡◌ {A = ℕ} (cond (p gates) 1 0) 1 = ap (λ (b : Bool). cond {A = ℕ} b 1 0) (ap p (sym same) ∙ pass x (contains_head x xs)) in
          let rest : length xs ≤ count_by p (range_with_len 0 gates) =
          below xs falling.1 (λ k has. omega (arith, falling.0 k has, same)) (λ k has. pass k (contains_tail x xs k has)) in
          let more : count_by p (range_with_len 0 (suc gates)) ≡ count_by p (range_with_len 0 gates) + cond (p gates) 1 0 = count_more gates in
          omega (arith, passes, rest, more)
      go below (inr other) =
          let first : x < suc gates = low x (contains_head x xs) in
          let all : length (x ∷ xs) ≤ count_by p (range_with_len 0 gates) =
          below (x ∷ xs) falling
          (λ k has. elim (head_or_tail x xs k has) [ inl e ↦ omega (arith, first, other, e) | inr later ↦ omega (arith, first, falling.0 k later) ]) pass in
          let more : count_by p (range_with_len 0 (suc gates)) ≡ count_by p (range_with_len 0 gates) + cond (p gates) 1 0 = count_more gates in
          omega (arith, all, more)
