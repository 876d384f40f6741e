-- Offered to the crates above: the actions of a frame with their slots. Where each stands, which of them end
-- in a slot, and that where the frame fits none uses what another uses in the same slot.
use Rattle.std.proofs.Common.{◌≡◌, ℕ, zero, suc, ◌+◌, ◌<◌, arith, Bool, true, false, cond, List, [], ◌∷◌, ◌++◌, map, refl, subst, sym, ap, ◌∙◌, inl, inr}
use Rattle.std.specs.Prelude.{◌⊎◌, Option, Some, None, slice_get, option_map, take, flat_map, Contains}
use Rattle.std.specs.List.{enumerate_from, filter}
use Rattle.std.specs.Option.{option_map_or}
use Rattle.std.proofs.lemmas.List.{append_assoc, take-map}
use Rattle.std.proofs.lemmas.Option.{none-some, same_Some, slice_get-map}
use Rattle.id_arena.specs.declared.wire.Wire.{Wire}
use Rattle.emu_machine.specs.declared.place.Thing.{Thing}
use Rattle.emu_machine.specs.declared.schedule.Action.{Action}
use Rattle.emu_machine.specs.declared.schedule.Slot.{Slot}
use Rattle.emu_machine.specs.State.{frame_slots, actions_of, Timed, timed, timed_actions, is_last, ending}
use Rattle.emu_machine.specs.Acceptance.{Case, slot_actions, uses_thing, earlier_actions}
use Rattle.facts.proofs.Lists.{Has, has_left, has_right, has_under, enumerated}
use Rattle.facts.proofs.Places.{contains_at, at_contains, at_map}
use Rattle.marks_law.specs.Slots.{FrameFits}

-- ## Parts of lists

-- an element of two lists one after the other stands in the first, after the same elements, or in the second,
-- after all of the first
in_part : {X : Type 0} (xs ys : List X) (j : ℕ) (x : X) → slice_get (xs ++ ys) j ≡ Some x
    → ((slice_get xs j ≡ Some x) × (take j (xs ++ ys) ≡ take j xs)) ⊎ ((i : ℕ) × (slice_get ys i ≡ Some x) × (take j (xs ++ ys) ≡ xs ++ take i ys))
in_part [] ys j x at = inr (j, at, refl)
in_part (y ∷ xs) ys zero x at = inl (at, refl)
in_part {X} (y ∷ xs) ys (suc j) x at =
    elim (in_part xs ys j x at) [
      | inl h ↦ inl (h.0, ap (λ (l : List X). y ∷ l) h.1)
      | inr h ↦ inr (h.0, h.1, ap (λ (l : List X). y ∷ l) h.2)
    ]

-- the first elements of a list stand where they stood
pub taken : {X : Type 0} (xs : List X) (i j : ℕ) → i < j → slice_get (take j xs) i ≡ slice_get xs i
taken [] i zero h = absurd (omega arith)
taken [] i (suc j) h = refl
taken (x ∷ xs) i zero h = absurd (omega arith)
taken (x ∷ xs) zero (suc j) h = refl
taken (x ∷ xs) (suc i) (suc j) h = let less : i < j = omega arith in taken xs i j less

-- an element of a list that is numbered from 0 stands beside its place
pub at_own_number : {X : Type 0} (xs : List X) (k : ℕ) (x : X) → slice_get xs k ≡ Some x → slice_get (enumerate_from 0 xs) k ≡ Some (k, x)
at_own_number xs k x at = let same : k ≡ 0 + k = omega arith in enumerated xs 0 k k x at same

module _ {X : Type 0} (p : X → Bool) where
  -- what passes a test stands in the list, and passes it
  pub record Passes (xs : List X) (x : X) : Type 0 where
    pub place : ℕ
    pub at : slice_get xs place ≡ Some x
    pub test : p x ≡ true

  -- what stands in the rest of a list stands one place later in the list
  abbrev later : (y : X) (ys : List X) (x : X) → Passes ys x → Passes (y ∷ ys) x
  later y ys x h = record { place = suc h.place; at = h.at; test = h.test }

  -- by whether the first element passes
  passes_by : (y : X) (ys : List X) (b : Bool) → p y ≡ b → ((j : ℕ) (x : X) → slice_get (filter p ys) j ≡ Some x → Passes ys x)
      → (j : ℕ) (x : X) → slice_get (cond b (y ∷ filter p ys) (filter p ys)) j ≡ Some x → Passes (y ∷ ys) x
  passes_by y ys false e rest j x at = later y ys x (rest j x at)
  passes_by y ys true e rest zero x at = record { place = 0; at = at; test = ap p (sym (same_Some y x at)) ∙ e }
  passes_by y ys true e rest (suc j) x at = later y ys x (rest j x at)

  -- what is left by a filter passes the test
  passes : (xs : List X) (j : ℕ) (x : X) → slice_get (filter p xs) j ≡ Some x → Passes xs x
  passes [] j x at = absurd (none-some x at)
  passes (y ∷ ys) j x at = passes_by y ys (p y) refl (passes ys) j x at

  -- two of them stand in the order of the list
  pub record PassInOrder (xs : List X) (x y : X) : Type 0 where
    pub first : Passes xs x
    pub second : Passes xs y
    pub order : first.place < second.place

  -- two in the rest of a list stand in the same order in the list
  both_later : (z : X) (zs : List X) (x y : X) → PassInOrder zs x y → PassInOrder (z ∷ zs) x y
  both_later z zs x y h =
      let order : h.first.place < h.second.place = h.order in
      let more : suc h.first.place < suc h.second.place = omega arith in
      record { first = later z zs x h.first; second = later z zs y h.second; order = more }

  -- by whether the first element passes, again
  in_order_by : (z : X) (zs : List X) (b : Bool) → p z ≡ b
      → ((i j : ℕ) (x y : X) → i < j → slice_get (filter p zs) i ≡ Some x → slice_get (filter p zs) j ≡ Some y → PassInOrder zs x y)
      → (i j : ℕ) (x y : X) → i < j → slice_get (cond b (z ∷ filter p zs) (filter p zs)) i ≡ Some x → slice_get (cond b (z ∷ filter p zs) (filter p zs)) j ≡ Some y
      → PassInOrder (z ∷ zs) x y
  in_order_by z zs false e rest i j x y less at_i at_j = both_later z zs x y (rest i j x y less at_i at_j)
  in_order_by z zs true e rest i zero x y less at_i at_j = absurd (omega arith)
  in_order_by z zs true e rest zero (suc j) x y less at_i at_j =
      record {
        first = record { place = 0; at = at_i; test = ap p (sym (same_Some z x at_i)) ∙ e };
        second = later z zs y (passes zs j y at_j);
        order = omega arith;
      }
  in_order_by z zs true e rest (suc i) (suc j) x y less at_i at_j =
      let deeper : i < j = omega arith in
      both_later z zs x y (rest i j x y deeper at_i at_j)

  -- a filter keeps the order of a list
  pub in_order : (xs : List X) (i j : ℕ) (x y : X) → i < j → slice_get (filter p xs) i ≡ Some x → slice_get (filter p xs) j ≡ Some y → PassInOrder xs x y
  in_order [] i j x y less at_i at_j = absurd (none-some x at_i)
  in_order (z ∷ zs) i j x y less at_i at_j = in_order_by z zs (p z) refl (in_order zs) i j x y less at_i at_j

-- ## Where an action stands

-- the actions of slots that are numbered from `n`
abbrev numbered_from : ℕ → List Slot → List Timed
numbered_from n slots = flat_map (λ (t, slot). map (timed t) slot.actions) (enumerate_from n slots)

record StandsFrom (n : ℕ) (slots : List Slot) (j : ℕ) (x : Timed) : Type 0 where
  slot : ℕ
  place : ℕ
  number : x.slot ≡ n + slot
  at : slice_get (actions_of slots slot) place ≡ Some x.action
  before : take j (numbered_from n slots) ≡ numbered_from n (take slot slots) ++ map (timed x.slot) (take place (actions_of slots slot))

-- an action of the first slot
stands_here : (n : ℕ) (slot : Slot) (slots : List Slot) (j : ℕ) (x : Timed)
    → slice_get (map (timed n) slot.actions) j ≡ Some x
    → take j (numbered_from n (slot ∷ slots)) ≡ take j (map (timed n) slot.actions)
    → StandsFrom n (slot ∷ slots) j x
stands_here n slot slots j x at before =
    let a = at_map (timed n) slot.actions j x at in
    let same : x.slot ≡ n = ap (λ (y : Timed). y.slot) a.2 in
    record {
      slot = 0;
      place = j;
      number = omega arith;
      at = a.1 ∙ ap (λ (y : Timed). Some y.action) (sym a.2);
      before = before ∙ take-map (timed n) j slot.actions ∙ ap (λ (i : ℕ). map (timed i) (take j slot.actions)) (sym same);
    }

-- an action of a later slot
stands_later : (n : ℕ) (slot : Slot) (slots : List Slot) (j i : ℕ) (x : Timed)
    → StandsFrom (n + 1) slots i x
    → take j (numbered_from n (slot ∷ slots)) ≡ map (timed n) slot.actions ++ take i (numbered_from (n + 1) slots)
    → StandsFrom n (slot ∷ slots) j x
stands_later n slot slots j i x h before =
    let same : x.slot ≡ (n + 1) + h.slot = h.number in
    record {
      slot = suc h.slot;
      place = h.place;
      number = omega arith;
      at = h.at;
      before = before
          ∙ ap (λ (l : List Timed). map (timed n) slot.actions ++ l) h.before
          ∙ sym (append_assoc (map (timed n) slot.actions) (numbered_from (n + 1) (take h.slot slots)) (map (timed x.slot) (take h.place (actions_of slots h.slot))));
    }

-- an action stands in the first slot or in a later one
stands_from : (n : ℕ) (slots : List Slot) (j : ℕ) (x : Timed) → slice_get (numbered_from n slots) j ≡ Some x → StandsFrom n slots j x
stands_from n [] j x at = absurd (none-some x at)
stands_from n (slot ∷ slots) j x at =
    elim (in_part (map (timed n) slot.actions) (numbered_from (n + 1) slots) j x at) [
      | inl h ↦ stands_here n slot slots j x h.0 h.1
      | inr h ↦ stands_later n slot slots j h.0 x (stands_from (n + 1) slots h.0 x h.1) h.2
    ]

-- the action at a place of all actions of a frame stands at a place of its slot, after the same actions
pub record StandsAt (slots : List Slot) (j : ℕ) (x : Timed) : Type 0 where
  pub place : ℕ
  pub at : slice_get (actions_of slots x.slot) place ≡ Some x.action
  pub before : take j (timed_actions slots) ≡ earlier_actions slots x.slot place

-- each action of a frame has such a place
pub stands_at : (slots : List Slot) (j : ℕ) (x : Timed) → slice_get (timed_actions slots) j ≡ Some x → StandsAt slots j x
stands_at slots j x at =
    let f : StandsFrom 0 slots j x = stands_from 0 slots j x at in
    let number : x.slot ≡ 0 + f.slot = f.number in
    let same : f.slot ≡ x.slot = omega arith in
    record {
      place = f.place;
      at = subst (λ (i : ℕ). slice_get (actions_of slots i) f.place ≡ Some x.action) same f.at;
      before = subst (λ (i : ℕ). take j (timed_actions slots) ≡ timed_actions (take i slots) ++ map (timed x.slot) (take f.place (actions_of slots i))) same f.before;
    }

-- by whether the slot is there
in_frame_by : (slots : List Slot) (t j : ℕ) (a : Action) (o : Option Slot) → slice_get slots t ≡ o
    → slice_get (option_map_or (λ (slot : Slot). slot.actions) o []) j ≡ Some a → Has (timed_actions slots) (timed t a)
in_frame_by slots t j a None e at = absurd (none-some a at)
in_frame_by slots t j a (Some slot) e at =
    has_under (λ (e : ℕ × Slot). map (timed e.0) e.1.actions) (enumerate_from 0 slots) (timed t a)
    (record {
      place = t;
      item = (t, slot);
      at = at_own_number slots t slot e;
      has = record { place = j; at = slice_get-map (timed t) slot.actions j ∙ ap (option_map (timed t)) at };
    })

-- an action of a slot is an action of the frame
pub slot_in_frame : (slots : List Slot) (t j : ℕ) (a : Action) → slice_get (actions_of slots t) j ≡ Some a → Has (timed_actions slots) (timed t a)
slot_in_frame slots t j a at = in_frame_by slots t j a (slice_get slots t) refl at

-- an action of an earlier slot is one of the actions of the slots before
in_earlier : (slots : List Slot) (t : ℕ) (a : Timed) → Contains (timed_actions slots) a → a.slot < t → Has (timed_actions (take t slots)) a
in_earlier slots t a there less =
    let h = at_contains (timed_actions slots) a there in
    let s : StandsAt slots h.0 a = stands_at slots h.0 a h.1 in
    slot_in_frame (take t slots) a.slot s.place a.action
    (ap (λ (o : Option Slot). slice_get (option_map_or (λ (slot : Slot). slot.actions) o []) s.place) (taken slots a.slot t less) ∙ s.at)

-- ## Which actions end in a slot

-- an action that ends in slot `t` is an action of the frame
pub record EndsIn (wires : List Wire) (slots : List Slot) (t : ℕ) (a : Action) : Type 0 where
  pub from : Timed
  pub place : ℕ
  pub at : slice_get (timed_actions slots) place ≡ Some from
  pub last : is_last wires t from ≡ true
  pub is : a ≡ from.action

-- what ends in a slot is an action of the frame whose last slot it is
pub ends_in : (wires : List Wire) (slots : List Slot) (t j : ℕ) (a : Action) → slice_get (ending wires slots t) j ≡ Some a → EndsIn wires slots t a
ends_in wires slots t j a at =
    let x = at_map (λ (x : Timed). x.action) (filter (is_last wires t) (timed_actions slots)) j a at in
    let h : Passes (is_last wires t) (timed_actions slots) x.0 = passes (is_last wires t) (timed_actions slots) j x.0 x.1 in
    record { from = x.0; place = h.place; at = h.at; last = h.test; is = x.2 }

-- two of them, in the order of the frame
pub record EndInOrder (wires : List Wire) (slots : List Slot) (t : ℕ) (a b : Action) : Type 0 where
  pub first : EndsIn wires slots t a
  pub second : EndsIn wires slots t b
  pub order : first.place < second.place

-- actions end in the order of the frame
pub end_in_order : (wires : List Wire) (slots : List Slot) (t i j : ℕ) (a b : Action) → i < j
    → slice_get (ending wires slots t) i ≡ Some a → slice_get (ending wires slots t) j ≡ Some b → EndInOrder wires slots t a b
end_in_order wires slots t i j a b less at_a at_b =
    let x = at_map (λ (x : Timed). x.action) (filter (is_last wires t) (timed_actions slots)) i a at_a in
    let y = at_map (λ (x : Timed). x.action) (filter (is_last wires t) (timed_actions slots)) j b at_b in
    let h : PassInOrder (is_last wires t) (timed_actions slots) x.0 y.0 = in_order (is_last wires t) (timed_actions slots) i j x.0 y.0 less x.1 y.1 in
    record {
      first = record { from = x.0; place = h.first.place; at = h.first.at; last = h.first.test; is = x.2 };
      second = record { from = y.0; place = h.second.place; at = h.second.at; last = h.second.test; is = y.2 };
      order = h.order;
    }

-- ## Nothing is used twice

module _ (c : Case) (frame : ℕ) (fit : FrameFits c frame) where
  -- the slots of the frame
  abbrev slots : List Slot
  slots = frame_slots c.results frame

  -- the wires of the board
  abbrev wires : List Wire
  wires = c.board.wires

  -- of two actions of the frame the later one uses nothing that the earlier one uses in the same slot
  pub none_uses_again : (u : ℕ) (what : Thing) (i j : ℕ) (a b : Timed) → i < j
      → slice_get (timed_actions slots) i ≡ Some a → slice_get (timed_actions slots) j ≡ Some b
      → uses_thing wires u what a ≡ true → uses_thing wires u what b ≡ true → ⊥
  none_uses_again u what i j a b less at_a at_b in_a in_b =
      let s : StandsAt slots j b = stands_at slots j b at_b in
      let before : slice_get (earlier_actions slots b.slot s.place) i ≡ Some a =
      ap (λ (l : List Timed). slice_get l i) (sym s.before) ∙ taken (timed_actions slots) i j less ∙ at_a in
      fit.once b.slot s.place what
      (record {
        action = b.action;
        here = s.at;
        earlier = a;
        before = contains_at (earlier_actions slots b.slot s.place) i a before;
        slot = u;
        uses = in_b;
        used = in_a;
      })

  -- an action of slot `t` uses nothing that an action before it in the slot uses
  pub used_once_in : (t u : ℕ) (what : Thing) (i j : ℕ) (a b : Action) → i < j
      → slice_get (slot_actions c frame t) i ≡ Some a → slice_get (slot_actions c frame t) j ≡ Some b
      → uses_thing wires u what (timed t a) ≡ true → uses_thing wires u what (timed t b) ≡ true → ⊥
  used_once_in t u what i j a b less at_a at_b in_a in_b =
      let here : slice_get (map (timed t) (take j (slot_actions c frame t))) i ≡ Some (timed t a) =
      slice_get-map (timed t) (take j (slot_actions c frame t)) i ∙ ap (option_map (timed t)) (taken (slot_actions c frame t) i j less ∙ at_a) in
      let has : Has (earlier_actions slots t j) (timed t a) =
      has_right (timed_actions (take t slots)) (map (timed t) (take j (slot_actions c frame t))) (timed t a) (record { place = i; at = here }) in
      fit.once t j what
      (record {
        action = b;
        here = at_b;
        earlier = timed t a;
        before = contains_at (earlier_actions slots t j) has.place (timed t a) has.at;
        slot = u;
        uses = in_b;
        used = in_a;
      })

  -- an action of slot `t` uses nothing that an action of an earlier slot uses
  pub used_once_after : (t u : ℕ) (what : Thing) (j : ℕ) (a : Timed) (b : Action) → Contains (timed_actions slots) a → a.slot < t
      → slice_get (slot_actions c frame t) j ≡ Some b
      → uses_thing wires u what a ≡ true → uses_thing wires u what (timed t b) ≡ true → ⊥
  used_once_after t u what j a b there less at_b in_a in_b =
      let has : Has (earlier_actions slots t j) a =
      has_left (timed_actions (take t slots)) (map (timed t) (take j (slot_actions c frame t))) a (in_earlier slots t a there less) in
      fit.once t j what
      (record {
        action = b;
        here = at_b;
        earlier = a;
        before = contains_at (earlier_actions slots t j) has.place a has.at;
        slot = u;
        uses = in_b;
        used = in_a;
      })
