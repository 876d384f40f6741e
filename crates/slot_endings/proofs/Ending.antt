-- The table of the actions that end in each slot, as it is filled.
use Rattle.std.proofs.Common.{◌≡◌, ◌<◌, ◌≤◌, ◌+◌, ℕ, zero, suc, Bool, true, false, List, [], ◌∷◌, ◌++◌, map, take, drop, get_or, length, replicate, refl, sym, ap, subst, ◌∙◌, inl, inr, arith, append_assoc, if◌then◌else◌}
use Rattle.std.specs.Prelude.{◌⊎◌, Some}
use Rattle.std.specs.List.{filter}
use Rattle.std.specs.Option.{option_map_or}
use Rattle.std.proofs.lemmas.Bool.{cases_eq}
use Rattle.std.proofs.lemmas.List.{append-nil, get_or-replicate, length-replicate, length-append, get_or_append_left, get_or_push, map-append, drop_all, take_more, take_all}
use Rattle.std.proofs.lemmas.List.Elements.{filter-append}
use Rattle.std.proofs.lemmas.Option.{slice_get-get_or}
use Rattle.id_arena.specs.declared.wire.Wire.{Wire}
use Rattle.emu_machine.specs.Results.{Results}
use Rattle.emu_machine.specs.declared.schedule.Action.{Action}
use Rattle.emu_machine.specs.declared.schedule.Frame.{Frame}
use Rattle.emu_machine.specs.declared.schedule.Slot.{Slot}
use Rattle.emu_machine.specs.State.{actions_of, Timed, timed, timed_actions, is_last, frame_slots}
use Rattle.slot_endings.specs.Endings.{ending_among, AreEndings, FirstEndings, AllEndings, HaveEndings, HaveMore}
use Rattle.slot_endings.proofs.Timed.{timed_from}

-- ## The actions of the first slots

timed_more : (k n : ℕ) (slots : List Slot) (t : ℕ) → t < length slots → n ≡ k + t
    → timed_from k (take (suc t) slots) ≡ timed_from k (take t slots) ++ map (timed n) (actions_of slots t)
timed_more k n [] t low is = absurd (omega (arith, low))
timed_more k n (slot ∷ slots) zero low is =
    let same : k ≡ n = omega (arith, is) in
    append-nil (map (timed k) slot.actions) ∙ ap (λ (m : ℕ). map (timed m) slot.actions) same
timed_more k n (slot ∷ slots) (suc t) low is =
    let here : t < length slots = omega (arith, low) in
    let next : n ≡ k + 1 + t = omega (arith, is) in
    ap (λ rest. map (timed k) slot.actions ++ rest) (timed_more (k + 1) n slots t here next)
    ∙ sym (append_assoc (map (timed k) slot.actions) (timed_from (k + 1) (take t slots)) (map (timed n) (actions_of slots t)))

-- those of one slot that end in a slot
kept : (wires : List Wire) (u n : ℕ) (actions : List Action) → ending_among wires u (map (timed n) actions) ≡ filter (λ a. is_last wires u (timed n a)) actions
kept wires u n [] = refl
kept wires u n (a ∷ actions) = go (is_last wires u (timed n a)) (kept wires u n actions)
  where
    go : (b : Bool) → ending_among wires u (map (timed n) actions) ≡ filter (λ a. is_last wires u (timed n a)) actions
        → map (λ (one : Timed). one.action) (if b then timed n a ∷ filter (is_last wires u) (map (timed n) actions) else filter (is_last wires u) (map (timed n) actions))
        ≡ (if b then a ∷ filter (λ a. is_last wires u (timed n a)) actions else filter (λ a. is_last wires u (timed n a)) actions)
    go true rest = ap (λ some. a ∷ some) rest
    go false rest = rest

-- ## More actions

pub none_more : (wires : List Wire) (t : ℕ) (table : List (List Action)) → HaveMore wires t [] table table
none_more wires t table = record { count = refl; each = λ u low. sym (append-nil (get_or table u [])) }

more_of_two : (wires : List Wire) (t : ℕ) (first second : List Action) (x y z : List (List Action))
    → HaveMore wires t first x y → HaveMore wires t second y z → HaveMore wires t (first ++ second) x z
more_of_two wires t first second x y z one two =
    record {
      count = two.count ∙ one.count;
      each = λ u low.
          let within : u < length y = omega (arith, low, one.count) in
          two.each u within
          ∙ ap (λ some. some ++ filter (λ a. is_last wires u (timed t a)) second) (one.each u low)
          ∙ append_assoc (get_or x u []) (filter (λ a. is_last wires u (timed t a)) first) (filter (λ a. is_last wires u (timed t a)) second)
          ∙ ap (λ some. get_or x u [] ++ some) (sym (filter-append (λ a. is_last wires u (timed t a)) first second));
    }

-- one more of some actions is added
pub one_more : (wires : List Wire) (t : ℕ) (actions : List Action) (k : ℕ) (a action : Action) → k < length actions → a ≡ get_or actions k a → action ≡ a
    → (x y z : List (List Action)) → HaveMore wires t (take k actions) x y → HaveMore wires t (action ∷ []) y z → HaveMore wires t (take (k + 1) actions) x z
one_more wires t actions k a action low at is x y z before one =
    subst (λ (some : List Action). HaveMore wires t some x z)
    (ap (λ last. take k actions ++ last ∷ []) (is ∙ at) ∙ sym (take_more actions k a low))
    (more_of_two wires t (take k actions) (action ∷ []) x y z before one)

-- ## All slots of a frame

pub none_ending : (wires : List Wire) (slots : List Slot) (table : List (List Action)) → table ≡ replicate (length slots) [] → HaveEndings wires (length slots) [] table
none_ending wires slots table is =
    record {
      count = ap length is ∙ length-replicate (length slots) [];
      each = λ u low. ap (λ some. get_or some u []) is ∙ get_or-replicate (length slots) u [] [] low;
    }

pub slot_at : (slots : List Slot) (t : ℕ) (slot : Slot) → t < length slots → (get_or slots t slot).actions ≡ actions_of slots t
slot_at slots t slot low = sym (ap (λ o. option_map_or (λ (s : Slot). s.actions) o []) (slice_get-get_or slots t slot low))

pub slot_ending : (wires : List Wire) (slots : List Slot) (t : ℕ) → t < length slots → (actions : List Action) → actions ≡ actions_of slots t
    → (before after : List (List Action)) → HaveEndings wires (length slots) (timed_actions (take t slots)) before → HaveMore wires t actions before after
    → HaveEndings wires (length slots) (timed_actions (take (t + 1) slots)) after
slot_ending wires slots t low actions are before after first more =
    record {
      count = more.count ∙ first.count;
      each = λ u within.
          more.each u (omega (arith, within, first.count))
          ∙ ap (λ some. some ++ filter (λ a. is_last wires u (timed t a)) actions) (first.each u within)
          ∙ ap (λ some. ending_among wires u (timed_actions (take t slots)) ++ some) (ap (filter (λ a. is_last wires u (timed t a))) are ∙ sym (kept wires u t (actions_of slots t)))
          ∙ joined u;
    }
  where
    next : suc t ≡ t + 1
    next = omega arith

    joined : (u : ℕ) → ending_among wires u (timed_actions (take t slots)) ++ ending_among wires u (map (timed t) (actions_of slots t)) ≡ ending_among wires u (timed_actions (take (t + 1) slots))
    joined u =
        sym (ap (map (λ (a : Timed). a.action)) (filter-append (is_last wires u) (timed_actions (take t slots)) (map (timed t) (actions_of slots t)))
        ∙ map-append (λ (a : Timed). a.action) (filter (is_last wires u) (timed_actions (take t slots))) (filter (is_last wires u) (map (timed t) (actions_of slots t))))
        ∙ ap (ending_among wires u) (sym (timed_more 0 t slots t low (omega arith)))
        ∙ ap (λ (k : ℕ). ending_among wires u (timed_actions (take k slots))) next

pub all_ending : (wires : List Wire) (slots : List Slot) (t : ℕ) → length slots ≤ t → (table : List (List Action)) → HaveEndings wires (length slots) (timed_actions (take t slots)) table
    → AreEndings wires slots table
all_ending wires slots t whole table have =
    record {
      count = have.count;
      each = λ u low. have.each u low ∙ ap (λ some. ending_among wires u (timed_actions some)) (take_all t slots whole);
    }

-- what stands in a vector after a call on all its elements
pub written_back : {X : Type 0} (items after : List X) (len : ℕ) → len ≡ length items → length after ≡ length items → take len (after ++ drop (length after) items) ≡ after
written_back items after len whole size =
    ap (λ rest. take len (after ++ rest)) (drop_all (length after) items (omega (arith, size)))
    ∙ ap (take len) (append-nil after)
    ∙ take_all len after (omega (arith, whole, size))

-- ## All frames

pub none_first : (r : Results) (wires : List Wire) → FirstEndings r wires 0 []
none_first r wires = record { count_is = refl; each = λ k low there. absurd (omega (arith, low)) }

pub one_first : (r : Results) (wires : List Wire) (k : ℕ) (frame : Frame) → k < length r.schedule.frames → frame ≡ get_or r.schedule.frames k frame
    → (before : List (List (List Action))) → FirstEndings r wires k before
    → (slots : List Slot) → slots ≡ frame.slots → (one : List (List Action)) → AreEndings wires slots one
    → FirstEndings r wires (k + 1) (before ++ one ∷ [])
one_first r wires k frame low at before first slots are one ends =
    record { count_is = length-append before (one ∷ []) ∙ ap (λ (n : ℕ). n + 1) first.count_is; each = go }
  where
    slots_are : slots ≡ frame_slots r k
    slots_are =
        are ∙ sym (ap (λ o. option_map_or (λ (f : Frame). f.slots) o []) (slice_get-get_or r.schedule.frames k frame low ∙ ap Some (sym at)))

    go : (j : ℕ) → j < k + 1 → j < length r.schedule.frames → AreEndings wires (frame_slots r j) (get_or (before ++ one ∷ []) j [])
    go j within there = cases (cases_eq j k)
      where
        cases : (j ≡ k) ⊎ (j ≡ k → ⊥) → AreEndings wires (frame_slots r j) (get_or (before ++ one ∷ []) j [])
        cases (inl same) =
            subst (λ (i : ℕ). AreEndings wires (frame_slots r i) (get_or (before ++ one ∷ []) i [])) (sym same)
            (subst (λ (some : List (List Action)). AreEndings wires (frame_slots r k) some) (sym (get_or_push before one [] k first.count_is))
            (subst (λ (some : List Slot). AreEndings wires some one) slots_are ends))
        cases (inr other) =
            let earlier : j < k = omega (arith, within, other) in
            subst (λ (some : List (List Action)). AreEndings wires (frame_slots r j) some)
            (sym (get_or_append_left before (one ∷ []) [] j (omega (arith, earlier, first.count_is))))
            (first.each j earlier there)

pub all_first : (r : Results) (wires : List Wire) (k : ℕ) → length r.schedule.frames ≤ k → k ≤ length r.schedule.frames → (endings : List (List (List Action))) → FirstEndings r wires k endings → AllEndings r wires endings
all_first r wires k whole within endings first =
    record { count = omega (arith, whole, within, first.count_is); each = λ j low. first.each j (omega (arith, low, whole)) low }
