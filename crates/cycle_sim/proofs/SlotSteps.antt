-- The state after a slot, from what registers took; and the state with the values of an event.
use Rattle.std.proofs.Common.{◌≡◌, ◌<◌, ◌≤◌, ◌+◌, ℕ, Bool, false, List, [], ◌∷◌, drop, set, get_or, length, replicate, refl, sym, ap, ◌∙◌, inl, inr, if◌then◌else◌, arith}
use Rattle.std.proofs.Math.Path.{fun_ext}
use Rattle.std.specs.Prelude.{◌==◌, ◌⊎◌, Option, Some, None, unwrap_or}
use Rattle.std.specs.Option.{option_or}
use Rattle.std.proofs.lemmas.Bool.{cases_eq, cases_lt}
use Rattle.std.proofs.lemmas.List.{get_or-set_same, get_or-set_other, get_or-replicate, get_or_past, length-replicate, drop_more}
use Rattle.id_arena.specs.declared.wire.Wire.{Wire}
use Rattle.design_core.specs.declared.values.PortBit.{PortBit}
use Rattle.design_core.specs.Event.{given}
use Rattle.emu_machine.specs.declared.schedule.Slot.{Slot}
use Rattle.emu_machine.specs.Results.{Results}
use Rattle.emu_machine.specs.State.{State, action_value, action_word, action_carried, first_given, actions_of, ending, slot_step, present}
use Rattle.facts.proofs.Tests.{same_number}
use Rattle.cycle_sim.specs.Values.{cell}
use Rattle.cycle_sim.specs.Tables.{Tables, word_in, state_of, HasPut}
use Rattle.cycle_sim.specs.Takes.{HasGiven, AreStored, IsCarrying}
use Rattle.cycle_sim.proofs.Counting.{is_other}
use Rattle.cycle_sim.proofs.Taking.{started}

-- ## Slots

-- what registers took, what words were given and what wires were given is the slot step
pub stepped : (r : Results) (wires : List Wire) (slots : List Slot) (t : ℕ) (outside : List Bool) (before after : List (List Bool)) (words stored : List (List (List ℕ))) (carried sent : List Bool)
    → HasGiven (λ c n. first_given (λ a. action_value r.net wires (started before words outside carried) a c n) (ending wires slots t)) before after
    → AreStored (λ c m a. first_given (λ action. action_word r.net (started before words outside carried) action c m a) (actions_of slots t)) words stored
    → IsCarrying (λ w. first_given (λ a. action_carried r.net wires (started before words outside carried) a w) (actions_of slots t)) carried sent
    → started after stored outside sent ≡ slot_step r.net wires slots t (started before words outside carried)
stepped r wires slots t outside before after words stored carried sent taken put given =
    let x : State = started before words outside carried in
    let y : State = slot_step r.net wires slots t x in
    let held : cell after ≡ y.held = fun_ext (λ c. fun_ext (λ n. taken c n)) in
    let word : word_in stored ≡ y.word = fun_ext (λ c. fun_ext (λ m. fun_ext (λ a. put c m a))) in
    let carries : (λ (w : ℕ). get_or sent w false) ≡ y.carried = fun_ext given in
    ap (λ (h : ℕ → ℕ → Bool). let z : State = record { held = h; word = word_in stored; outside = x.outside; carried = λ w. get_or sent w false } in z) held
    ∙ ap (λ (w : ℕ → ℕ → ℕ → ℕ). let z : State = record { held = y.held; word = w; outside = x.outside; carried = λ w. get_or sent w false } in z) word
    ∙ ap (λ (on : ℕ → Bool). let z : State = record { held = y.held; word = y.word; outside = x.outside; carried = on } in z) carries

-- wires that carry 0 and wires without a value carry the same
carries_nothing : (t : Tables) (count : ℕ) → t.carried ≡ [] → started t.held t.words t.outside (replicate count false) ≡ state_of t
carries_nothing t count none =
    ap (λ (on : ℕ → Bool). let z : State = record { held = cell t.held; word = word_in t.words; outside = λ n. get_or t.outside n false; carried = on } in z)
    (fun_ext (λ w. zero_there w (cases_lt w count) ∙ sym (ap (λ some. get_or some w false) none)))
  where
    zero_there : (w : ℕ) → (w < count) ⊎ (count ≤ w) → get_or (replicate count false) w false ≡ false
    zero_there w (inl low) = get_or-replicate count w false false low
    zero_there w (inr high) =
        let size : length (replicate count false) ≡ count = length-replicate count false in
        get_or_past (replicate count false) w false (omega (arith, size, high))

-- the tables of a machine that is opened stand for what was loaded
pub opened : (t : Tables) (held : List (List Bool)) (words : List (List (List ℕ))) (outside carried : List Bool) (count : ℕ)
    → held ≡ t.held → words ≡ t.words → outside ≡ t.outside → carried ≡ replicate count false → t.carried ≡ []
    → started held words outside carried ≡ state_of t
opened t held words outside carried count held_is words_is outside_is zeros none =
    ap (λ some. started some words outside carried) held_is
    ∙ ap (λ some. started t.held some outside carried) words_is
    ∙ ap (λ some. started t.held t.words some carried) outside_is
    ∙ ap (λ some. started t.held t.words t.outside some) zeros
    ∙ carries_nothing t count none

-- ## Values that stand outside

pub presented : (values : List PortBit) (held : List (List Bool)) (words : List (List (List ℕ))) (before after carried : List Bool) → HasPut values before after
    → started held words after carried ≡ present values (started held words before carried)
presented values held words before after carried put =
    let x : State = started held words before carried in
    let y : State = present values x in
    let same : (λ (n : ℕ). get_or after n false) ≡ y.outside = fun_ext put in
    ap (λ (o : ℕ → Bool). let z : State = record { held = x.held; word = x.word; outside = o; carried = x.carried } in z) same

given_more : (values : List PortBit) (bit : PortBit) (table : List Bool) → bit.net.place < length table
    → (n : ℕ) → unwrap_or (given values n) (get_or (set table bit.net.place bit.value) n false) ≡ unwrap_or (given (bit ∷ values) n) (get_or table n false)
given_more values bit table low n = cases (given values n) (cases_eq n bit.net.place)
  where
    cases : (o : Option Bool) → (n ≡ bit.net.place) ⊎ (n ≡ bit.net.place → ⊥)
        → unwrap_or o (get_or (set table bit.net.place bit.value) n false) ≡ unwrap_or (option_or o (if bit.net.place == n then Some bit.value else None)) (get_or table n false)
    cases (Some v) same = refl
    cases None (inl same) =
        ap (λ (k : ℕ). get_or (set table bit.net.place bit.value) k false) same
        ∙ get_or-set_same table bit.net.place bit.value false low
        ∙ sym (ap (λ b. unwrap_or (if b then Some bit.value else None) (get_or table n false)) (same_number bit.net.place n (sym same)))
    cases None (inr other) =
        get_or-set_other table bit.net.place n bit.value false other
        ∙ sym (ap (λ b. unwrap_or (if b then Some bit.value else None) (get_or table n false)) (is_other bit.net.place n (λ e. other (sym e))))

-- one more value is put: what is left to put now, on the new table, is what was left on the old one
pub one_put : (values : List PortBit) (k : ℕ) (bit : PortBit) → k < length values → bit ≡ get_or values k bit
    → (table after : List Bool) → bit.net.place < length table → after ≡ set table bit.net.place bit.value
    → (n : ℕ) → unwrap_or (given (drop (k + 1) values) n) (get_or after n false) ≡ unwrap_or (given (drop k values) n) (get_or table n false)
one_put values k bit low is table after within put n =
    ap (λ t. unwrap_or (given (drop (k + 1) values) n) (get_or t n false)) put
    ∙ given_more (drop (k + 1) values) bit table within n
    ∙ ap (λ vs. unwrap_or (given vs n) (get_or table n false)) (sym (drop_more values k bit low ∙ ap (λ b. b ∷ drop (k + 1) values) (sym is)))
