-- A net takes a value, and a gate has its turn.
use Rattle.std.proofs.Common.{◌≡◌, ℕ, ◌<◌, Bool, true, false, List, length, set, refl, sym, ap, subst, ◌∙◌, inl, inr}
use Rattle.std.specs.Prelude.{◌≢◌, Some, slice_get, slice_index}
use Rattle.std.proofs.lemmas.List.{set-get_or, get_or-set_other}
use Rattle.std.proofs.lemmas.Option.{get_or_from_slice_get}
use Rattle.link_rows.specs.BitRows.{is_set}
use Rattle.graph_rank.specs.Rows.{row}
use Rattle.gate_pass.specs.Gates.{PassState, NetHasTaken, NoneDrives, OthersWait, value_on, turn_gives}
use Rattle.gate_pass.specs.Inside.{AreWoken, HasHadTurn}
use Rattle.gate_pass.specs.Readers.{AreReaders}
use Rattle.gate_pass.proofs.Members.{contains_or_not, never_both, set_or_clear, unread}

module _ {T : Type 0} (none : T) where
  -- a test of two values tells whether a net has a value
  pub has_value : (values : List T) (n k : ℕ) (value current : T) (test : Bool) → k ≡ n → slice_get values k ≡ Some current
      → ((test ≡ true → value ≡ current) × (value ≡ current → test ≡ true)) → test ≡ true → value_on none values n ≡ value
  has_value values n k value current test place at is passes =
      let here : value_on none values k ≡ current = get_or_from_slice_get values k current none at in
      ap (value_on none values) (sym place) ∙ here ∙ sym (is.0 passes)

  pub has_no_value : (values : List T) (n k : ℕ) (value current : T) (test : Bool) → k ≡ n → slice_get values k ≡ Some current
      → ((test ≡ true → value ≡ current) × (value ≡ current → test ≡ true)) → test ≡ false → value_on none values n ≢ value
  has_no_value values n k value current test place at is fails e =
      let here : value_on none values k ≡ current = get_or_from_slice_get values k current none at in
      never_both test (is.1 (sym e ∙ ap (value_on none values) (sym place) ∙ here)) fails

  -- a net takes the value that it has
  pub takes_same : (n : ℕ) (value : T) (s : PassState T) → value_on none s.values n ≡ value → NetHasTaken none n value s s
  takes_same n value s same =
      record {
        inputs = refl;
        outputs = refl;
        values = sym (set-get_or s.values n none) ∙ ap (set s.values n) same;
        gates = refl;
        woken = λ k read. inr same;
        still = λ k waits. waits;
        only = λ k waits. inl waits;
      }

  -- a net takes another value, and its readers are woken
  pub takes_other : (inputs : List (List ℕ)) (outputs : List ℕ) (readers : List (List ℕ)) (values after : List T) (idle woken : List Bool) (n : ℕ) (value : T) (s : PassState T)
      → record { inputs = inputs; outputs = outputs; values = values; idle = idle } ≡ s
      → n < length values → AreReaders (length values) inputs readers → value_on none values n ≢ value
      → after ≡ set values n value → AreWoken (row readers n) idle woken
      → NetHasTaken none n value s (record { inputs = inputs; outputs = outputs; values = after; idle = woken })
  takes_other inputs outputs readers values after idle woken n value s view low read other set_to are =
      subst (λ (old : PassState T). NetHasTaken none n value old (record { inputs = inputs; outputs = outputs; values = after; idle = woken })) view
      (record {
        inputs = refl;
        outputs = refl;
        values = set_to;
        gates = are.size;
        woken = λ k reads. inl (are.woken k ((read.each n k low).1 reads));
        still = are.still;
        only = λ k waits. elim (are.only k waits) [ inl was ↦ inl was | inr reads ↦ inr ((read.each n k low).0 reads, other) ];
      })

  -- a net that no gate drives takes a value, and each gate that does not hold waits still
  pub taken_others : (gives : ℕ → List T → T) (n : ℕ) (value : T) (old new : PassState T) → NoneDrives old.outputs n → NetHasTaken none n value old new
      → OthersWait gives none old → OthersWait gives none new
  taken_others gives n value old new free taken hold k low idle =
      let low_old : k < length old.outputs = subst (λ (o : List ℕ). k < length o) taken.outputs low in
      let idle_old : is_set old.idle k ≡ true =
      elim (set_or_clear (is_set old.idle k)) [ inl yes_it ↦ yes_it | inr waits ↦ never_both (is_set new.idle k) idle (taken.still k waits) ] in
      let same : turn_gives gives none old.inputs (set old.values n value) k ≡ turn_gives gives none old.inputs old.values k =
      elim (contains_or_not (row old.inputs k) n) [
        | inr not_read ↦ unread gives none old.inputs old.values n value k not_read
        | inl read ↦ elim (taken.woken k read) [
          | inl waits ↦ never_both (is_set new.idle k) idle waits
          | inr is ↦ ap (λ (v : T). turn_gives gives none old.inputs (set old.values n v) k) (sym is)
              ∙ ap (λ (v : List T). turn_gives gives none old.inputs v k) (set-get_or old.values n none)
        ]
      ] in
      ap (value_on none new.values) (ap (λ (o : List ℕ). slice_index o k) taken.outputs)
      ∙ ap (λ (v : List T). value_on none v (slice_index old.outputs k)) taken.values
      ∙ get_or-set_other old.values n (slice_index old.outputs k) value none (free k low_old)
      ∙ hold k low_old idle_old
      ∙ sym same
      ∙ ap (λ (v : List T). turn_gives gives none old.inputs v k) (sym taken.values)
      ∙ ap (λ (i : List (List ℕ)). turn_gives gives none i new.values k) (sym taken.inputs)

  -- a gate rests, and then its net takes what it gives
  pub has_had_turn : (gives : ℕ → List T → T) (inputs : List (List ℕ)) (outputs : List ℕ) (values : List T) (idle rests : List Bool) (k n : ℕ) (value : T) (s new : PassState T)
      → record { inputs = inputs; outputs = outputs; values = values; idle = idle } ≡ s
      → n ≡ slice_index outputs k → value ≡ turn_gives gives none inputs values k → rests ≡ set idle k true
      → NetHasTaken none n value (record { inputs = inputs; outputs = outputs; values = values; idle = rests }) new
      → HasHadTurn gives none k s new
  has_had_turn gives inputs outputs values idle rests k n value s new view net is rest h =
      let begun : PassState T = record { inputs = inputs; outputs = outputs; values = values; idle = rests } in
      let h1 : NetHasTaken none (slice_index outputs k) value begun new = subst (λ (m : ℕ). NetHasTaken none m value begun new) net h in
      let h2 : NetHasTaken none (slice_index outputs k) (turn_gives gives none inputs values k) begun new =
      subst (λ (v : T). NetHasTaken none (slice_index outputs k) v begun new) is h1 in
      let h3 : NetHasTaken none (slice_index outputs k) (turn_gives gives none inputs values k) (record { inputs = inputs; outputs = outputs; values = values; idle = set idle k true }) new =
      subst (λ (b : List Bool). NetHasTaken none (slice_index outputs k) (turn_gives gives none inputs values k) (record { inputs = inputs; outputs = outputs; values = values; idle = b }) new) rest h2 in
      subst (λ (t : PassState T). HasHadTurn gives none k t new) view h3
