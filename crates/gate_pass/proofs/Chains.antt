-- Pins are linked one after the other, and the pins of a net are found from its last one back.
use Rattle.std.proofs.Common.{◌≡◌, ℕ, zero, suc, ◌+◌, ◌<◌, ◌≤◌, arith, List, [], ◌∷◌, ◌++◌, length, set, replicate, take, get_or, refl, sym, ap, subst, ◌∙◌, inl, inr}
use Rattle.std.specs.Prelude.{◌⊎◌, ◌↔◌, ◌≢◌, Option, Some, None, slice_get, slice_index, Contains}
use Rattle.std.specs.Option.{option_map_or}
use Rattle.std.proofs.lemmas.Bool.{cases_eq, cases_lt}
use Rattle.std.proofs.lemmas.List.{length-set, length_push, get_or-set_same, get_or-set_other, get_or_append_left, get_or_push, take_more}
use Rattle.std.proofs.lemmas.List.Elements.{Contains-append_left, Contains-push, Contains-push_cases}
use Rattle.std.proofs.lemmas.Option.{none-some, same_Some, slice_get_within}
use Rattle.graph_rank.specs.Rows.{row}
use Rattle.gate_pass.specs.declared.readers.Pin.{Pin}
use Rattle.gate_pass.specs.Readers.{AreReaders, AreFirstReaders, IsLastOf, AreLinked, PinReads, HasMore, AreChains, IsBehind, AreFound}
use Rattle.gate_pass.proofs.Members.{empty_contains, contains_head, head_or_tail, row_there}

-- ## Places in a list with one element more

at_before : {X : Type 0} (xs ys : List X) (k : ℕ) (x : X) → slice_get xs k ≡ Some x → slice_get (xs ++ ys) k ≡ Some x
at_before [] ys k x at = absurd (none-some x at)
at_before (y ∷ xs) ys zero x at = at
at_before (y ∷ xs) ys (suc k) x at = at_before xs ys k x at

at_end : {X : Type 0} (xs : List X) (x : X) → slice_get (xs ++ x ∷ []) (length xs) ≡ Some x
at_end [] x = refl
at_end (y ∷ xs) x = at_end xs x

before_or_end : {X : Type 0} (xs : List X) (y : X) (k : ℕ) (x : X) → slice_get (xs ++ y ∷ []) k ≡ Some x → (slice_get xs k ≡ Some x) ⊎ ((k ≡ length xs) × (y ≡ x))
before_or_end [] y zero x at = inr (refl, same_Some y x at)
before_or_end [] y (suc k) x at = absurd (none-some x at)
before_or_end (z ∷ xs) y zero x at = inl at
before_or_end (z ∷ xs) y (suc k) x at =
    elim (before_or_end xs y k x at) [ inl front ↦ inl front | inr e ↦ inr (ap suc e.0, e.1) ]

number_before : (nets : List ℕ) (net q : ℕ) → q < length nets → slice_index (nets ++ net ∷ []) q ≡ slice_index nets q
number_before nets net q low = get_or_append_left nets (net ∷ []) 0 q low

number_end : (nets : List ℕ) (net : ℕ) → slice_index (nets ++ net ∷ []) (length nets) ≡ net
number_end nets net = get_or_push nets net 0 (length nets) refl

-- the last one among the first numbers does not change with a number more
last_in_front : (nets : List ℕ) (net count n : ℕ) (o : Option ℕ) → count ≤ length nets → IsLastOf nets count n o → IsLastOf (nets ++ net ∷ []) count n o
last_in_front nets net count n None within h =
    λ q low. λ e. h q low (sym (number_before nets net q (omega (arith, low, within))) ∙ e)
last_in_front nets net count n (Some p) within h = (
  h.0,
  number_before nets net p (omega (arith, h.0, within)) ∙ h.1,
  λ q late low. λ e. h.2 q late low (sym (number_before nets net q (omega (arith, low, within))) ∙ e),
)

-- nor with a number more that is another one
last_with_other : (nets : List ℕ) (net n : ℕ) (o : Option ℕ) → net ≢ n → IsLastOf nets (length nets) n o → IsLastOf (nets ++ net ∷ []) (length (nets ++ net ∷ [])) n o
last_with_other nets net n o other h = go o h
  where
    size : length (nets ++ net ∷ []) ≡ length nets + 1
    size = length_push nets net

    not_it : (q : ℕ) → q < length (nets ++ net ∷ []) → (q < length nets → slice_index nets q ≢ n) → slice_index (nets ++ net ∷ []) q ≢ n
    not_it q low front =
        elim (cases_lt q (length nets)) [
          | inl early ↦ λ e. front early (sym (number_before nets net q early) ∙ e)
          | inr late ↦ λ e.
              let last : q ≡ length nets = omega (arith, low, late, size) in
              other (sym (number_end nets net) ∙ ap (slice_index (nets ++ net ∷ [])) (sym last) ∙ e)
        ]

    go : (o : Option ℕ) → IsLastOf nets (length nets) n o → IsLastOf (nets ++ net ∷ []) (length (nets ++ net ∷ [])) n o
    go None h = λ q low. not_it q low (h q)
    go (Some p) h = (
      omega (arith, h.0, size),
      number_before nets net p h.0 ∙ h.1,
      λ q late low. not_it q low (h.2 q late),
    )

-- ## One pin more

module _ (nets : List ℕ) (last : List (Option ℕ)) (pins : List Pin) (linked : AreLinked nets last pins) (gate net place : ℕ) (low : net < length last) (is_end : place ≡ length pins) where
  abbrev added : Pin
  added = record { gate = gate; before = get_or last net None }

  abbrev more : List Pin
  more = pins ++ added ∷ []

  abbrev all : List ℕ
  all = nets ++ net ∷ []

  ends : (n : ℕ) → (n ≡ net) ⊎ (n ≡ net → ⊥) → n < length last → IsLastOf all (length all) n (get_or (set last net (Some place)) n None)
  ends n (inl same) low_n =
      let size : length all ≡ length nets + 1 = length_push nets net in
      let here : IsLastOf all (length all) net (Some place) = (
        omega (arith, size, is_end, linked.size),
        ap (slice_index all) (is_end ∙ linked.size) ∙ number_end nets net,
        λ q late low_q. absurd (omega (arith, size, is_end, linked.size, late, low_q)),
      ) in
      let there : get_or (set last net (Some place)) net None ≡ Some place = get_or-set_same last net (Some place) None low in
      subst (λ (m : ℕ). IsLastOf all (length all) m (get_or (set last net (Some place)) m None)) (sym same)
      (subst (IsLastOf all (length all) net) (sym there) here)
  ends n (inr other) low_n =
      subst (IsLastOf all (length all) n) (sym (get_or-set_other last net n (Some place) None other))
      (last_with_other nets net n (get_or last n None) (λ e. other (sym e)) (linked.ends n low_n))

  steps : (p : ℕ) (pin : Pin) → slice_get more p ≡ Some pin → IsLastOf all p (slice_index all p) pin.before
  steps p pin at =
      elim (before_or_end pins added p pin at) [
        | inl front ↦
            let within : p < length nets = omega (arith, slice_get_within pins p pin front, linked.size) in
            subst (λ (n : ℕ). IsLastOf all p n pin.before) (sym (number_before nets net p within))
            (last_in_front nets net p (slice_index nets p) pin.before (omega (arith, within)) (linked.steps p pin front))
        | inr e ↦
            let here : p ≡ length nets = e.0 ∙ linked.size in
            let is : slice_index all p ≡ net = ap (slice_index all) here ∙ number_end nets net in
            let before : IsLastOf all (length nets) net (get_or last net None) =
            last_in_front nets net (length nets) net (get_or last net None) (omega arith) (linked.ends net low) in
            subst (λ (q : Pin). IsLastOf all p (slice_index all p) q.before) e.1
            (subst (λ (n : ℕ). IsLastOf all p n (get_or last net None)) (sym is)
            (subst (λ (c : ℕ). IsLastOf all c net (get_or last net None)) (sym here) before))
      ]

  pinned : (k n : ℕ) → PinReads all more k n ↔ (PinReads nets pins k n ⊎ ((k ≡ gate) × Contains (net ∷ []) n))
  pinned k n = (to, from)
    where
      to : PinReads all more k n → PinReads nets pins k n ⊎ ((k ≡ gate) × Contains (net ∷ []) n)
      to h =
          elim (before_or_end pins added h.0 h.1 h.2) [
            | inl front ↦
                let within : h.0 < length nets = omega (arith, slice_get_within pins h.0 h.1 front, linked.size) in
                inl (h.0, h.1, front, h.3, sym (number_before nets net h.0 within) ∙ h.4)
            | inr e ↦
                let is : slice_index all h.0 ≡ net = ap (slice_index all) (e.0 ∙ linked.size) ∙ number_end nets net in
                inr (sym h.3 ∙ sym (ap (λ (q : Pin). q.gate) e.1), subst (Contains (net ∷ [])) (sym is ∙ h.4) (contains_head net []))
          ]

      from : PinReads nets pins k n ⊎ ((k ≡ gate) × Contains (net ∷ []) n) → PinReads all more k n
      from (inl h) =
          let within : h.0 < length nets = omega (arith, slice_get_within pins h.0 h.1 h.2, linked.size) in
          (h.0, h.1, at_before pins (added ∷ []) h.0 h.1 h.2, h.3, number_before nets net h.0 within ∙ h.4)
      from (inr h) =
          let is : net ≡ n = elim (head_or_tail net [] n h.1) [ inl e ↦ e | inr none ↦ absurd (empty_contains n none) ] in
          (length pins, added, at_end pins added, sym h.0, ap (slice_index all) linked.size ∙ number_end nets net ∙ is)

  pub one_pin_more : HasMore nets pins gate (net ∷ []) (set last net (Some place)) more
  one_pin_more =
      record {
        all_nets = all;
        linked = record {
          size = length_push pins added ∙ ap (λ (k : ℕ). k + 1) linked.size ∙ sym (length_push nets net);
          ends = λ n low_n. ends n (cases_eq n net) (subst (λ (k : ℕ). n < k) (length-set last net (Some place)) low_n);
          steps = steps;
        };
        pinned = pinned;
      }

-- ## The pins of a gate

pub next_pin_more : (nets : List ℕ) (pins : List Pin) (gate : ℕ) (xs : List ℕ) (i : ℕ) (last last' : List (Option ℕ)) (mid new : List Pin) → i < length xs
    → (h : HasMore nets pins gate (take i xs) last mid)
    → HasMore h.all_nets mid gate (get_or xs i 0 ∷ []) last' new
    → HasMore nets pins gate (take (i + 1) xs) last' new
next_pin_more nets pins gate xs i last last' mid new low h one =
    record {
      all_nets = one.all_nets;
      linked = one.linked;
      pinned = λ k n. (to k n, from k n);
    }
  where
    longer : take (i + 1) xs ≡ take i xs ++ get_or xs i 0 ∷ []
    longer = take_more xs i 0 low

    to : (k n : ℕ) → PinReads one.all_nets new k n → PinReads nets pins k n ⊎ ((k ≡ gate) × Contains (take (i + 1) xs) n)
    to k n pin =
        elim ((one.pinned k n).0 pin) [
          | inl was ↦ elim ((h.pinned k n).0 was) [
            | inl old ↦ inl old
            | inr e ↦ inr (e.0, subst (λ (ys : List ℕ). Contains ys n) (sym longer) (Contains-append_left (take i xs) (get_or xs i 0 ∷ []) n e.1))
          ]
          | inr e ↦
              let is : get_or xs i 0 ≡ n = elim (head_or_tail (get_or xs i 0) [] n e.1) [ inl same ↦ same | inr none ↦ absurd (empty_contains n none) ] in
              inr (e.0, subst (λ (ys : List ℕ). Contains ys n) (sym longer) (subst (Contains (take i xs ++ get_or xs i 0 ∷ [])) is (Contains-push (take i xs) (get_or xs i 0))))
        ]

    from : (k n : ℕ) → PinReads nets pins k n ⊎ ((k ≡ gate) × Contains (take (i + 1) xs) n) → PinReads one.all_nets new k n
    from k n (inl old) = (one.pinned k n).1 (inl ((h.pinned k n).1 (inl old)))
    from k n (inr e) =
        elim (Contains-push_cases (take i xs) (get_or xs i 0) n (subst (λ (ys : List ℕ). Contains ys n) longer e.1)) [
          | inl early ↦ (one.pinned k n).1 (inl ((h.pinned k n).1 (inr (e.0, early))))
          | inr same ↦ (one.pinned k n).1 (inr (e.0, subst (Contains (get_or xs i 0 ∷ [])) same (contains_head (get_or xs i 0) [])))
        ]

-- ## The pins of all gates

pub no_chains : (inputs : List (List ℕ)) (nets : ℕ) (last : List (Option ℕ)) (pins : List Pin) → last ≡ replicate nets None → pins ≡ [] → AreChains inputs 0 last pins
no_chains inputs nets last pins none_last no_pins =
    subst (λ (ps : List Pin). AreChains inputs 0 last ps) (sym no_pins)
    (subst (λ (ls : List (Option ℕ)). AreChains inputs 0 ls []) (sym none_last)
    (record {
      nets = [];
      linked = record {
        size = refl;
        ends = λ n low. subst (IsLastOf [] 0 n) (sym (default n)) (λ q none. absurd (omega (arith, none)));
        steps = λ p pin at. absurd (none-some pin at);
      };
      pinned = λ k n. (λ h. absurd (none-some h.1 h.2), λ h. absurd (omega (arith, h.0)));
    }))
  where
    default_at : (m n : ℕ) → get_or (replicate {A = Option ℕ} m None) n None ≡ None
    default_at zero n = refl
    default_at (suc m) zero = refl
    default_at (suc m) (suc n) = default_at m n

    default : (n : ℕ) → get_or (replicate {A = Option ℕ} nets None) n None ≡ None
    default n = default_at nets n

pub next_chains : (inputs : List (List ℕ)) (gate : ℕ) (last last' : List (Option ℕ)) (pins new : List Pin)
    → (h : AreChains inputs gate last pins) → HasMore h.nets pins gate (row inputs gate) last' new → AreChains inputs (gate + 1) last' new
next_chains inputs gate last last' pins new h more =
    record { nets = more.all_nets; linked = more.linked; pinned = λ k n. (to k n, from k n) }
  where
    to : (k n : ℕ) → PinReads more.all_nets new k n → (k < gate + 1) × Contains (row inputs k) n
    to k n pin =
        elim ((more.pinned k n).0 pin) [
          | inl old ↦ let was = (h.pinned k n).0 old in (omega (arith, was.0), was.1)
          | inr e ↦ (omega (arith, e.0), subst (λ (j : ℕ). Contains (row inputs j) n) (sym e.0) e.1)
        ]

    from : (k n : ℕ) → (k < gate + 1) × Contains (row inputs k) n → PinReads more.all_nets new k n
    from k n reads =
        elim (cases_lt k gate) [
          | inl early ↦ (more.pinned k n).1 (inl ((h.pinned k n).1 (early, reads.1)))
          | inr late ↦
              let same : k ≡ gate = omega (arith, reads.0, late) in
              (more.pinned k n).1 (inr (same, subst (λ (j : ℕ). Contains (row inputs j) n) same reads.1))
        ]

-- ## The pins of a net

module _ (nets : List ℕ) (last : List (Option ℕ)) (pins : List Pin) (linked : AreLinked nets last pins) (n : ℕ) where
  pub next_found : (place : ℕ) (pin : Pin) (gates : List ℕ) → slice_get pins place ≡ Some pin → AreFound pins nets n (Some place) gates
      → AreFound pins nets n pin.before (gates ++ pin.gate ∷ [])
  next_found place pin gates at h =
      record {
        only = λ k has.
            elim (Contains-push_cases gates pin.gate k has) [ inl old ↦ h.only k old | inr e ↦ (place, pin, at, e, here_is) ];
        late = λ p other at_p is after. late p other at_p is after (cases_lt place p) (cases_eq p place);
        here = λ p e. here pin.before step p e;
      }
    where
      here_is : slice_index nets place ≡ n
      here_is = (h.here place refl).1

      step : IsLastOf nets place n pin.before
      step = subst (λ (m : ℕ). IsLastOf nets place m pin.before) here_is (linked.steps place pin at)

      no_between : (o : Option ℕ) → IsLastOf nets place n o → (p : ℕ) → p < place → slice_index nets p ≡ n → IsBehind o p → ⊥
      no_between None l p low is after = l p low is
      no_between (Some q) l p low is after = l.2 p after low is

      late : (p : ℕ) (other : Pin) → slice_get pins p ≡ Some other → slice_index nets p ≡ n → IsBehind pin.before p → (place < p) ⊎ (p ≤ place) → (p ≡ place) ⊎ (p ≡ place → ⊥)
          → Contains (gates ++ pin.gate ∷ []) other.gate
      late p other at_p is after (inl far) eq = Contains-append_left gates (pin.gate ∷ []) other.gate (h.late p other at_p is far)
      late p other at_p is after (inr near) (inl same) =
          let pins_same : pin ≡ other = same_Some pin other (sym at ∙ ap (slice_get pins) (sym same) ∙ at_p) in
          subst (λ (q : Pin). Contains (gates ++ pin.gate ∷ []) q.gate) pins_same (Contains-push gates pin.gate)
      late p other at_p is after (inr near) (inr apart) = absurd (no_between pin.before step p (omega (arith, near, apart)) is after)

      here : (o : Option ℕ) → IsLastOf nets place n o → (p : ℕ) → o ≡ Some p → (p < length pins) × (slice_index nets p ≡ n)
      here o l p e =
          let m : IsLastOf nets place n (Some p) = subst (IsLastOf nets place n) e l in
          (omega (arith, m.0, slice_get_within pins place pin at), m.1)

-- a pin stands after the one before it
pub falls : (nets : List ℕ) (last : List (Option ℕ)) (pins : List Pin) → AreLinked nets last pins → (place : ℕ) (pin : Pin) → slice_get pins place ≡ Some pin
    → (p : ℕ) → pin.before ≡ Some p → p < place
falls nets last pins linked place pin at p e =
    let l : IsLastOf nets place (slice_index nets place) (Some p) = subst (IsLastOf nets place (slice_index nets place)) e (linked.steps place pin at) in l.0

-- the measure of the way back is falls_by_measure at a falls_by_measure pin
pub falls_by_measure : (o : Option ℕ) (place : ℕ) (at : Option ℕ) → option_map_or (λ (p : ℕ). p + 1) at 0 ≡ place + 1 → ((p : ℕ) → o ≡ Some p → p < place)
    → option_map_or (λ (p : ℕ). p + 1) o 0 < option_map_or (λ (p : ℕ). p + 1) at 0
falls_by_measure None place at is below = omega (arith, is)
falls_by_measure (Some p) place at is below = omega (arith, is, below p refl)

-- ## The readers of all nets

pub next_readers : (inputs readers : List (List ℕ)) (net : ℕ) (gates : List ℕ) (last : List (Option ℕ)) (pins : List Pin) → (chains : AreChains inputs (length inputs) last pins)
    → ((k : ℕ) → Contains gates k ↔ PinReads chains.nets pins k net)
    → AreFirstReaders net inputs readers → AreFirstReaders (net + 1) inputs (readers ++ gates ∷ [])
next_readers inputs readers net gates last pins chains found h =
    record { count_is = length_push readers gates ∙ ap (λ (k : ℕ). k + 1) h.count_is; each = λ n k low. each n k low (cases_lt n net) }
  where
    at_net : row (readers ++ gates ∷ []) net ≡ gates
    at_net = get_or_push readers gates [] net h.count_is

    each : (n k : ℕ) → n < net + 1 → (n < net) ⊎ (net ≤ n) → Contains (row (readers ++ gates ∷ []) n) k ↔ Contains (row inputs k) n
    each n k low (inl early) =
        let same : row (readers ++ gates ∷ []) n ≡ row readers n = get_or_append_left readers (gates ∷ []) [] n (omega (arith, early, h.count_is)) in
        subst (λ (ks : List ℕ). Contains ks k ↔ Contains (row inputs k) n) (sym same) (h.each n k early)
    each n k low (inr late) =
        let here : n ≡ net = omega (arith, low, late) in
        subst (λ (m : ℕ). Contains (row (readers ++ gates ∷ []) m) k ↔ Contains (row inputs k) m) (sym here)
        (subst (λ (ks : List ℕ). Contains ks k ↔ Contains (row inputs k) net) (sym at_net) (
          λ has. ((chains.pinned k net).0 ((found k).0 has)).1,
          λ reads. (found k).1 ((chains.pinned k net).1 (row_there inputs k net reads, reads)),
        ))

pub all_readers : (nets count : ℕ) (inputs readers : List (List ℕ)) → count ≡ nets → AreFirstReaders count inputs readers → AreReaders nets inputs readers
all_readers nets count inputs readers whole h =
    record { count = h.count_is ∙ whole; each = λ n k low. h.each n k (subst (λ (c : ℕ). n < c) (sym whole) low) }
