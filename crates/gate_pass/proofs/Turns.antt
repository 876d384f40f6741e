-- A gate has its turn: what held before it holds after it, with one gate more.
use Rattle.std.proofs.Common.{◌≡◌, ℕ, ◌+◌, ◌<◌, ◌≤◌, arith, true, false, List, ◌∷◌, length, set, sym, ap, subst, ◌∙◌, inl, inr}
use Rattle.std.specs.Prelude.{◌⊎◌, ◌≢◌, Some, slice_index, Contains}
use Rattle.std.proofs.lemmas.Bool.{cases_eq, cases_lt}
use Rattle.std.proofs.lemmas.List.{length-set, get_or-set_same, get_or-set_other, set-get_or}
use Rattle.link_rows.specs.BitRows.{is_set, IsFirstClear}
use Rattle.graph_rank.specs.Rows.{row}
use Rattle.gate_pass.specs.Gates.{PassState, AreRanked, value_on, turn_gives, GateHolds, OthersWait, IsDue}
use Rattle.gate_pass.specs.Inside.{HasHadTurn, IsInPass, HaveCounted, rested}
use Rattle.gate_pass.proofs.Members.{head_or_tail, contains_or_not, never_both, set_or_clear, unread}

module _ {T : Type 0} (gives : ℕ → List T → T) (none : T) where
  module _ (old s new : PassState T) (ranked : AreRanked (length s.values) s.inputs s.outputs) (at gate : ℕ) (h : IsInPass gives none old s at) (low : gate < length s.outputs) (first : IsFirstClear s.idle at (Some gate)) (gates : length s.idle ≡ length s.outputs) (turn : HasHadTurn gives none gate s new) where
    abbrev output : ℕ
    output = slice_index s.outputs gate

    abbrev value : T
    value = turn_gives gives none s.inputs s.values gate

    low_old : gate < length old.outputs
    low_old = subst (λ (o : List ℕ). gate < length o) h.outputs low

    low_bit : gate < length s.idle
    low_bit = omega (arith, low, gates)

    -- the value of a net after the turn
    here : value_on none new.values output ≡ value
    here =
        ap (λ (v : List T). value_on none v output) turn.values
        ∙ get_or-set_same s.values output value none (ranked.drives gate low)

    elsewhere : (n : ℕ) → (n ≡ output → ⊥) → value_on none new.values n ≡ value_on none s.values n
    elsewhere n other =
        ap (λ (v : List T). value_on none v n) turn.values
        ∙ get_or-set_other s.values output n value none other

    -- the net of this gate is as it was at the start
    not_driven_yet : value_on none s.values output ≡ value_on none old.values output
    not_driven_yet =
        let same : slice_index old.outputs gate ≡ output = ap (λ (o : List ℕ). slice_index o gate) (sym h.outputs) in
        ap (value_on none s.values) (sym same) ∙ h.later gate (first.0) low_old ∙ ap (value_on none old.values) same

    rests_here : is_set (rested s gate).idle gate ≡ true
    rests_here = get_or-set_same s.idle gate true false low_bit

    rests_elsewhere : (k : ℕ) → (k ≡ gate → ⊥) → is_set (rested s gate).idle k ≡ is_set s.idle k
    rests_elsewhere k other = get_or-set_other s.idle gate k true false other

    -- gates before this one are idle
    idle_before : (k : ℕ) → k < gate → is_set s.idle k ≡ true
    idle_before k less = go (cases_lt k at)
      where
        go : (k < at) ⊎ (at ≤ k) → is_set s.idle k ≡ true
        go (inl early) = h.below k early (omega (arith, less, low_old))
        go (inr late) = first.3 k late less

    due_stays : (k : ℕ) → IsDue none old s k → IsDue none old new k
    due_stays k (inl waited) = inl waited
    due_stays k (inr changed) = go (cases_eq changed.0 output)
      where
        go : (changed.0 ≡ output) ⊎ (changed.0 ≡ output → ⊥) → IsDue none old new k
        go (inl same) =
            absurd (changed.2 (ap (value_on none s.values) same ∙ not_driven_yet ∙ ap (value_on none old.values) (sym same)))
        go (inr other) = inr (changed.0, changed.1, λ e. changed.2 (sym (elsewhere changed.0 other) ∙ e))

    -- a gate that waits after the turn did before it, or reads the net that has changed
    waits_after : (k : ℕ) → is_set new.idle k ≡ false → ((k ≡ gate → ⊥) × (is_set s.idle k ≡ false)) ⊎ (Contains (row s.inputs k) output × (value_on none s.values output ≢ value))
    waits_after k waits = go (turn.only k waits) (cases_eq k gate)
      where
        go : (is_set (rested s gate).idle k ≡ false) ⊎ (Contains (row s.inputs k) output × (value_on none s.values output ≢ value)) → (k ≡ gate) ⊎ (k ≡ gate → ⊥)
            → ((k ≡ gate → ⊥) × (is_set s.idle k ≡ false)) ⊎ (Contains (row s.inputs k) output × (value_on none s.values output ≢ value))
        go (inr reads) same = inr reads
        go (inl was) (inl same) = never_both _ rests_here (ap (is_set (rested s gate).idle) (sym same) ∙ was)
        go (inl was) (inr other) = inl (other, sym (rests_elsewhere k other) ∙ was)

    due_after : (k : ℕ) → k < length old.outputs → is_set new.idle k ≡ false → IsDue none old new k
    due_after k low_k waits = go (waits_after k waits)
      where
        go : ((k ≡ gate → ⊥) × (is_set s.idle k ≡ false)) ⊎ (Contains (row s.inputs k) output × (value_on none s.values output ≢ value)) → IsDue none old new k
        go (inl was) = due_stays k (h.due k low_k was.1)
        go (inr reads) = inr (
          output,
          subst (λ (i : List (List ℕ)). Contains (row i k) output) h.inputs reads.0,
          λ e. reads.1 (not_driven_yet ∙ sym e ∙ here),
        )

    below_after : (k : ℕ) → k < gate + 1 → k < length old.outputs → is_set new.idle k ≡ true
    below_after k less low_k = go (set_or_clear (is_set new.idle k))
      where
        go_on : ((k ≡ gate → ⊥) × (is_set s.idle k ≡ false)) ⊎ (Contains (row s.inputs k) output × (value_on none s.values output ≢ value)) → is_set new.idle k ≡ true
        go_on (inl was) = never_both _ (idle_before k (omega (arith, less, was.0))) was.1
        go_on (inr reads) = absurd (omega (arith, less, ranked.later gate k low reads.0))

        go : (is_set new.idle k ≡ true) ⊎ (is_set new.idle k ≡ false) → is_set new.idle k ≡ true
        go (inl idle) = idle
        go (inr waits) = go_on (waits_after k waits)

    hold_after : OthersWait gives none new
    hold_after k low_k idle = go (cases_eq k gate)
      where
        low_s : k < length s.outputs
        low_s = subst (λ (o : List ℕ). k < length o) turn.outputs low_k

        given_after : turn_gives gives none s.inputs (set s.values output value) k ≡ turn_gives gives none s.inputs s.values k
            → turn_gives gives none new.inputs new.values k ≡ turn_gives gives none s.inputs s.values k
        given_after e =
            ap (λ (i : List (List ℕ)). turn_gives gives none i new.values k) turn.inputs
            ∙ ap (λ (v : List T). turn_gives gives none s.inputs v k) turn.values
            ∙ e

        output_after : slice_index new.outputs k ≡ slice_index s.outputs k
        output_after = ap (λ (o : List ℕ). slice_index o k) turn.outputs

        idle_then : (k ≡ gate → ⊥) → is_set s.idle k ≡ true
        idle_then other =
            elim (set_or_clear (is_set s.idle k)) [
              | inl e ↦ e
              | inr e ↦ never_both _ idle (turn.still k (rests_elsewhere k other ∙ e))
            ]

        same_given : Contains (row s.inputs k) output ⊎ (Contains (row s.inputs k) output → ⊥) → turn_gives gives none s.inputs (set s.values output value) k ≡ turn_gives gives none s.inputs s.values k
        same_given (inr not_read) = unread gives none s.inputs s.values output value k not_read
        same_given (inl read) =
            elim (turn.woken k read) [
              | inl waits ↦ never_both _ idle waits
              | inr same ↦ ap (λ (v : T). turn_gives gives none s.inputs (set s.values output v) k) (sym same)
                  ∙ ap (λ (v : List T). turn_gives gives none s.inputs v k) (set-get_or s.values output none)
            ]

        go : (k ≡ gate) ⊎ (k ≡ gate → ⊥) → GateHolds gives none new k
        go (inl same) =
            let own : Contains (row s.inputs k) output → ⊥ = λ read. omega (arith, same, ranked.later gate k low read) in
            ap (value_on none new.values) (output_after ∙ ap (slice_index s.outputs) same)
            ∙ here
            ∙ ap (turn_gives gives none s.inputs s.values) (sym same)
            ∙ sym (given_after (unread gives none s.inputs s.values output value k own))
        go (inr other) =
            let apart : slice_index s.outputs k ≡ output → ⊥ = λ e. other (ranked.once k gate low_s low e) in
            ap (value_on none new.values) output_after
            ∙ elsewhere (slice_index s.outputs k) apart
            ∙ h.hold k low_s (idle_then other)
            ∙ sym (given_after (same_given (contains_or_not (row s.inputs k) output)))

    pub one_had_turn : IsInPass gives none old new (gate + 1)
    one_had_turn =
        record {
          inputs = turn.inputs ∙ h.inputs;
          outputs = turn.outputs ∙ h.outputs;
          nets = ap length turn.values ∙ length-set s.values output value ∙ h.nets;
          gates = turn.gates ∙ length-set s.idle gate true ∙ h.gates;
          free = λ n free.
              let free_now : n ≡ output → ⊥ = λ e. free gate low_old (ap (λ (o : List ℕ). slice_index o gate) (sym h.outputs) ∙ sym e) in
              elsewhere n free_now ∙ h.free n free;
          later = λ k less low_k.
              let low_s : k < length s.outputs = subst (λ (o : List ℕ). k < length o) (sym h.outputs) low_k in
              let apart : slice_index old.outputs k ≡ output → ⊥ =
              λ e. omega (arith, less, ranked.once k gate low_s low (ap (λ (o : List ℕ). slice_index o k) h.outputs ∙ e)) in
              elsewhere (slice_index old.outputs k) apart ∙ h.later k (omega (arith, less, first.0)) low_k;
          below = below_after;
          hold = hold_after;
          due = due_after;
        }

    pub one_counted : (before now then_ : ℕ) → HaveCounted none old s at before now → then_ ≤ now + 1 → HaveCounted none old new (gate + 1) before then_
    one_counted before now then_ c more =
        record {
          turns = gate ∷ c.turns;
          were_due = record {
            falling = (λ k has. omega (arith, c.below k has, first.0), c.were_due.falling);
            there = λ k has. elim (head_or_tail gate c.turns k has) [ inl same ↦ subst (λ (n : ℕ). n < length old.outputs) same low_old | inr rest ↦ c.were_due.there k rest ];
            due = λ k has. due_stays k (elim (head_or_tail gate c.turns k has) [ inl same ↦ subst (IsDue none old s) same (h.due gate low_old first.2) | inr rest ↦ c.were_due.due k rest ]);
          };
          below = λ k has. elim (head_or_tail gate c.turns k has) [ inl same ↦ omega (arith, same) | inr rest ↦ omega (arith, c.below k rest, first.0) ];
          counted = omega (arith, c.counted, more);
        }
