-- Offered to the crates above: which actions of a frame stand before a place of it, and that those which last
-- one slot end in the slot in which they stand.
use Rattle.std.proofs.Common.{◌≡◌, ℕ, zero, suc, ◌+◌, ◌<◌, arith, Bool, true, false, cond, List, [], ◌∷◌, ◌++◌, append-nil, length, map, take, get_or, refl, subst, sym, ap, ◌∙◌, inl, inr}
use Rattle.std.specs.Prelude.{◌⊎◌, ◌==◌, ◌&&◌, nat_le, Contains, flat_map}
use Rattle.std.specs.List.{enumerate_from, filter}
use Rattle.std.proofs.lemmas.Bool.Decides.{nat_tests}
use Rattle.std.proofs.lemmas.List.Elements.{Contains-append_right, Contains-append_cases, filter-append}
use Rattle.id_arena.specs.declared.wire.Wire.{Wire}
use Rattle.emu_machine.specs.declared.schedule.Action.{Action}
use Rattle.emu_machine.specs.declared.schedule.Action.TheVariants as action
use Rattle.emu_machine.specs.declared.schedule.Slot.{Slot}
use Rattle.emu_machine.specs.State.{actions_of, Timed, timed, timed_actions, slots_taken, is_last, ending}
use Rattle.emu_machine.specs.Acceptance.{earlier_actions}

-- ## Elements of lists

module _ {X : Type 0} where
  head_in : (x : X) (xs : List X) → Contains (x ∷ xs) x
  head_in x xs = (0, omega arith, refl)

  pub tail_in : (y x : X) (xs : List X) → Contains xs x → Contains (y ∷ xs) x
  tail_in y x xs h = Contains-append_right (y ∷ []) xs x h

  none_in : {A : Type 0} (x : X) → Contains [] x → A
  none_in x h = let low : h.0 < 0 = h.1 in absurd (omega (arith, low))

  in_at : (y x : X) (xs : List X) (k : ℕ) → k < length (y ∷ xs) → get_or (y ∷ xs) k x ≡ x → (y ≡ x) ⊎ Contains xs x
  in_at y x xs zero low e = inl e
  in_at y x xs (suc k) low e = inr (k, omega (arith, low), e)

  in_cases : (y x : X) (xs : List X) → Contains (y ∷ xs) x → (y ≡ x) ⊎ Contains xs x
  in_cases y x xs h = in_at y x xs h.0 h.1 h.2

module _ {X Y : Type 0} (f : X → Y) where
  pub map_in : (xs : List X) (x : X) → Contains xs x → Contains (map f xs) (f x)
  map_in [] x h = none_in x h
  map_in (z ∷ xs) x h = go (map_in xs x) (in_cases z x xs h)
    where
      go : (Contains xs x → Contains (map f xs) (f x)) → (z ≡ x) ⊎ Contains xs x → Contains (f z ∷ map f xs) (f x)
      go deep (inl e) = subst (λ (y : Y). Contains (f z ∷ map f xs) y) (ap f e) (head_in (f z) (map f xs))
      go deep (inr h) = tail_in (f z) (f x) (map f xs) (deep h)

  in_map : (xs : List X) (y : Y) → Contains (map f xs) y → (x : X) × Contains xs x × (f x ≡ y)
  in_map [] y h = none_in y h
  in_map (z ∷ xs) y h = go (in_map xs y) (in_cases (f z) y (map f xs) h)
    where
      go : (Contains (map f xs) y → (x : X) × Contains xs x × (f x ≡ y)) → (f z ≡ y) ⊎ Contains (map f xs) y → (x : X) × Contains (z ∷ xs) x × (f x ≡ y)
      go deep (inl e) = (z, head_in z xs, e)
      go deep (inr h) =
          let r : (x : X) × Contains xs x × (f x ≡ y) = deep h in
          (r.0, tail_in z r.0 xs r.1, r.2)

  map_append : (xs ys : List X) → map f (xs ++ ys) ≡ map f xs ++ map f ys
  map_append [] ys = refl
  map_append (x ∷ xs) ys = ap (λ l. f x ∷ l) (map_append xs ys)

pub in_take : {X : Type 0} (n : ℕ) (xs : List X) (x : X) → Contains (take n xs) x → Contains xs x
in_take zero [] x h = h
in_take (suc n) [] x h = h
in_take zero (y ∷ xs) x h = none_in x h
in_take (suc n) (y ∷ xs) x h = go (in_take n xs x) (in_cases y x (take n xs) h)
  where
    go : (Contains (take n xs) x → Contains xs x) → (y ≡ x) ⊎ Contains (take n xs) x → Contains (y ∷ xs) x
    go deep (inl e) = subst (λ z. Contains (y ∷ xs) z) e (head_in y xs)
    go deep (inr k) = tail_in y x xs (deep k)

-- ## Which actions of a frame stand in a slot

-- the actions of slots that are numbered from `n` on
abbrev pub from : ℕ → List Slot → List Timed
from n slots = flat_map (λ (t, slot). map (timed t) slot.actions) (enumerate_from n slots)

-- where an action of such slots stands
record Stands (n : ℕ) (slots : List Slot) (x : Timed) : Type 0 where
  place : ℕ
  at : x.slot ≡ n + place
  low : place < length slots
  here : Contains (actions_of slots place) x.action

stands_from : (n : ℕ) (slots : List Slot) (x : Timed) → Contains (from n slots) x → Stands n slots x
stands_from n [] x h = none_in x h
stands_from n (slot ∷ slots) x h =
    go (stands_from (n + 1) slots x) (Contains-append_cases (map (timed n) slot.actions) (from (n + 1) slots) x h)
  where
    go : (Contains (from (n + 1) slots) x → Stands (n + 1) slots x) → Contains (map (timed n) slot.actions) x ⊎ Contains (from (n + 1) slots) x
        → Stands n (slot ∷ slots) x
    go deep (inl h) =
        let r : (a : Action) × Contains slot.actions a × (timed n a ≡ x) = in_map (timed n) slot.actions x h in
        let number : n ≡ n + 0 = omega arith in
        record {
          place = 0;
          at = sym (ap (λ (y : Timed). y.slot) r.2) ∙ number;
          low = omega arith;
          here = subst (λ (a : Action). Contains slot.actions a) (ap (λ (y : Timed). y.action) r.2) r.1;
        }
    go deep (inr h) =
        let r : Stands (n + 1) slots x = deep h in
        let number : n + 1 + r.place ≡ n + suc r.place = omega arith in
        let low : r.place < length slots = r.low in
        record { place = suc r.place; at = r.at ∙ number; low = omega (arith, low); here = r.here }

place_is : (slots : List Slot) (x : Timed) (r : Stands 0 slots x) → r.place ≡ x.slot
place_is slots x r = let at : x.slot ≡ 0 + r.place = r.at in omega (arith, at)

-- an action of a frame stands in its slot
in_slot : (slots : List Slot) (x : Timed) → Contains (timed_actions slots) x → Contains (actions_of slots x.slot) x.action
in_slot slots x h =
    let r : Stands 0 slots x = stands_from 0 slots x h in
    let at : r.place ≡ x.slot = place_is slots x r in
    subst (λ (t : ℕ). Contains (actions_of slots t) x.action) at r.here

slot_low : (slots : List Slot) (x : Timed) → Contains (timed_actions slots) x → x.slot < length slots
slot_low slots x h =
    let r : Stands 0 slots x = stands_from 0 slots x h in
    let at : r.place ≡ x.slot = place_is slots x r in
    subst (λ (t : ℕ). t < length slots) at r.low

-- ## Which actions stand before a place

taken_low : (t : ℕ) (slots : List Slot) (k : ℕ) → k < length (take t slots) → k < t
taken_low zero [] k h = absurd (omega (arith, h))
taken_low zero (slot ∷ slots) k h = absurd (omega (arith, h))
taken_low (suc t) [] k h = absurd (omega (arith, h))
taken_low (suc t) (slot ∷ slots) zero h = omega arith
taken_low (suc t) (slot ∷ slots) (suc k) h = let low : k < t = taken_low t slots k (omega (arith, h)) in omega (arith, low)

taken_stand : (t : ℕ) (slots : List Slot) (k : ℕ) (a : Action) → Contains (actions_of (take t slots) k) a → Contains (actions_of slots k) a
taken_stand zero [] k a h = h
taken_stand zero (slot ∷ slots) k a h = none_in a h
taken_stand (suc t) [] k a h = h
taken_stand (suc t) (slot ∷ slots) zero a h = h
taken_stand (suc t) (slot ∷ slots) (suc k) a h = taken_stand t slots k a h

-- an action before place `j` of slot `t` stands in an earlier slot, or earlier in that slot
pub record IsEarlier (slots : List Slot) (t j : ℕ) (x : Timed) : Type 0 where
  pub stands : Contains (actions_of slots x.slot) x.action
  pub before : (x.slot < t) ⊎ ((x.slot ≡ t) × Contains (take j (actions_of slots t)) x.action)

pub earlier_is : (slots : List Slot) (t j : ℕ) (x : Timed) → Contains (earlier_actions slots t j) x → IsEarlier slots t j x
earlier_is slots t j x h = go (Contains-append_cases (timed_actions (take t slots)) (map (timed t) (take j (actions_of slots t))) x h)
  where
    go : Contains (timed_actions (take t slots)) x ⊎ Contains (map (timed t) (take j (actions_of slots t))) x → IsEarlier slots t j x
    go (inl h) =
        record {
          stands = taken_stand t slots x.slot x.action (in_slot (take t slots) x h);
          before = inl (taken_low t slots x.slot (slot_low (take t slots) x h));
        }
    go (inr h) =
        let r : (a : Action) × Contains (take j (actions_of slots t)) a × (timed t a ≡ x) = in_map (timed t) (take j (actions_of slots t)) x h in
        let slot : t ≡ x.slot = ap (λ (y : Timed). y.slot) r.2 in
        let action : r.0 ≡ x.action = ap (λ (y : Timed). y.action) r.2 in
        let here : Contains (take j (actions_of slots t)) x.action = subst (λ (a : Action). Contains (take j (actions_of slots t)) a) action r.1 in
        record {
          stands = subst (λ (k : ℕ). Contains (actions_of slots k) x.action) slot (in_take j (actions_of slots t) x.action here);
          before = inr (sym slot, here);
        }

-- an action before place `j` of slot `t` in that slot is an earlier action
pub earlier_here : (slots : List Slot) (t j : ℕ) (a : Action) → Contains (take j (actions_of slots t)) a → Contains (earlier_actions slots t j) (timed t a)
earlier_here slots t j a h =
    Contains-append_right (timed_actions (take t slots)) (map (timed t) (take j (actions_of slots t))) (timed t a)
    (map_in (timed t) (take j (actions_of slots t)) a h)

-- ## Actions that last one slot

same_last : (s t n : ℕ) → n ≡ 1 → (nat_le s t && (t + 1 == s + n)) ≡ (s == t)
same_last s t n one = grind (arith, nat_tests)

module _ (wires : List Wire) where
  -- such an action is in its last slot in the slot in which it stands
  pub one_last : (t : ℕ) (x : Timed) → slots_taken wires x.action ≡ 1 → is_last wires t x ≡ (x.slot == t)
  one_last t x one = same_last x.slot t (slots_taken wires x.action) one

  abbrev actions_at : ℕ → List Timed → List Action
  actions_at t xs = map (λ x. x.action) (filter (is_last wires t) xs)

  at_append : (t : ℕ) (xs ys : List Timed) → actions_at t (xs ++ ys) ≡ actions_at t xs ++ actions_at t ys
  at_append t xs ys =
      ap (map (λ (x : Timed). x.action)) (filter-append (is_last wires t) xs ys)
      ∙ map_append (λ (x : Timed). x.action) (filter (is_last wires t) xs) (filter (is_last wires t) ys)

  abbrev AllOne : List Action → Type 0
  AllOne actions = (a : Action) → Contains actions a → slots_taken wires a ≡ 1

  -- actions that stand in slot `n` are those that end in it, where they last one slot
  same_ending : (n t : ℕ) → n ≡ t → (actions : List Action) → AllOne actions → actions_at t (map (timed n) actions) ≡ actions
  same_ending n t e [] one = refl
  same_ending n t e (a ∷ actions) one =
      ap (λ (b : Bool). map (λ (x : Timed). x.action) (cond b (timed n a ∷ filter (is_last wires t) (map (timed n) actions)) (filter (is_last wires t) (map (timed n) actions))))
      (one_last t (timed n a) (one a (head_in a actions)) ∙ same)
      ∙ ap (λ (l : List Action). a ∷ l) (same_ending n t e actions (λ b h. one b (tail_in a b actions h)))
    where
      same : (n == t) ≡ true
      same = grind (arith, nat_tests)

  other_ending : (n t : ℕ) → (n ≡ t → ⊥) → (actions : List Action) → AllOne actions → actions_at t (map (timed n) actions) ≡ []
  other_ending n t e [] one = refl
  other_ending n t e (a ∷ actions) one =
      ap (λ (b : Bool). map (λ (x : Timed). x.action) (cond b (timed n a ∷ filter (is_last wires t) (map (timed n) actions)) (filter (is_last wires t) (map (timed n) actions))))
      (one_last t (timed n a) (one a (head_in a actions)) ∙ other)
      ∙ other_ending n t e actions (λ b h. one b (tail_in a b actions h))
    where
      other : (n == t) ≡ false
      other = grind (arith, nat_tests)

  abbrev AreOne : List Slot → Type 0
  AreOne slots = (t : ℕ) → AllOne (actions_of slots t)

  later_ending : (n t : ℕ) → t < n → (slots : List Slot) → AreOne slots → actions_at t (from n slots) ≡ []
  later_ending n t low [] one = refl
  later_ending n t low (slot ∷ slots) one =
      at_append t (map (timed n) slot.actions) (from (n + 1) slots)
      ∙ ap (λ (l : List Action). l ++ actions_at t (from (n + 1) slots)) (other_ending n t (λ e. omega (arith, low, e)) slot.actions (one 0))
      ∙ later_ending (n + 1) t (omega (arith, low)) slots (λ k. one (suc k))

  ending_from : (n k : ℕ) (slots : List Slot) → AreOne slots → actions_at (n + k) (from n slots) ≡ actions_of slots k
  ending_from n k [] one = refl
  ending_from n zero (slot ∷ slots) one =
      at_append (n + 0) (map (timed n) slot.actions) (from (n + 1) slots)
      ∙ ap (λ (l : List Action). l ++ actions_at (n + 0) (from (n + 1) slots)) (same_ending n (n + 0) (omega arith) slot.actions (one 0))
      ∙ ap (λ (l : List Action). slot.actions ++ l) (later_ending (n + 1) (n + 0) (omega arith) slots (λ k. one (suc k)))
      ∙ append-nil slot.actions
  ending_from n (suc k) (slot ∷ slots) one =
      let number : n + 1 + k ≡ n + suc k = omega arith in
      at_append (n + suc k) (map (timed n) slot.actions) (from (n + 1) slots)
      ∙ ap (λ (l : List Action). l ++ actions_at (n + suc k) (from (n + 1) slots)) (other_ending n (n + suc k) (λ e. omega (arith, e)) slot.actions (one 0))
      ∙ subst (λ (t : ℕ). actions_at t (from (n + 1) slots) ≡ actions_of slots k) number (ending_from (n + 1) k slots (λ j. one (suc j)))

  -- where each action of a frame lasts one slot, those end in a slot which stand in it
  pub one_ending : (slots : List Slot) → ((t : ℕ) (a : Action) → Contains (actions_of slots t) a → slots_taken wires a ≡ 1)
      → (t : ℕ) → ending wires slots t ≡ actions_of slots t
  one_ending slots one t =
      let number : 0 + t ≡ t = omega arith in
      subst (λ (k : ℕ). ending wires slots k ≡ actions_of slots t) number (ending_from 0 t slots one)

-- ## Boards without wires

-- where there is no wire, every action lasts one slot
pub one_taken : (a : Action) → slots_taken [] a ≡ 1
one_taken (action.Input chip register net) = refl
one_taken (action.Load chip register) = refl
one_taken (action.Send wire net register) = refl
one_taken (action.Write chip mem port) = refl
one_taken (action.Read chip mem port) = refl

pub ending_is : (slots : List Slot) (t : ℕ) → ending [] slots t ≡ actions_of slots t
ending_is slots t = one_ending [] slots (λ k a h. one_taken a) t
