-- A6: the least action of a slot, a frame and a schedule that uses a thing again.
use Rattle.std.proofs.Common.{◌≡◌, ◌<◌, ◌≤◌, ◌+◌, ◌⊎◌, ℕ, zero, suc, Bool, true, false, List, [], ◌∷◌, ◌++◌, length, map, take, get_or, Option, None, Some, inl, inr, refl, sym, subst, ap, ◌∙◌, arith, cond, append-nil}
use Rattle.std.specs.Prelude.{◌==◌, nat_lt, slice_get, IfSome}
use Rattle.std.specs.Option.{option_or, option_map_or}
use Rattle.std.proofs.lemmas.Bool.Decides.{nat_tests}
use Rattle.std.proofs.lemmas.Option.{none-some, same_Some, slice_get_past, slice_get_read, slice_get-get_or}
use Rattle.facts.proofs.Tests.{same_number, number_same}
use Rattle.id_arena.specs.declared.keys.WireId.{WireId}
use Rattle.id_arena.specs.declared.wire.Wire.{Wire}
use Rattle.emu_machine.specs.declared.netlist.Chip.{Chip}
use Rattle.emu_machine.specs.declared.place.Place.{Place}
use Rattle.emu_machine.specs.declared.place.Place.TheVariants as place
use Rattle.emu_machine.specs.declared.place.Thing.{Thing}
use Rattle.emu_machine.specs.declared.place.Thing.TheVariants as thing
use Rattle.emu_machine.specs.declared.schedule.Action.{Action}
use Rattle.emu_machine.specs.declared.schedule.Frame.{Frame}
use Rattle.emu_machine.specs.declared.schedule.Slot.{Slot}
use Rattle.emu_machine.specs.Results.{Results}
use Rattle.emu_machine.specs.State.{actions_of, frame_slots, slots_taken, timed, timed_actions, Timed}
use Rattle.emu_machine.specs.Acceptance.{Precedes, UsesAgain, earlier_actions, place_key, thing_key, uses_thing}
use Rattle.emu_machine.proofs.OneSlot.{from}
use Rattle.use_check.specs.Least.{Begins, IsLeastUnder}
use Rattle.use_check.specs.Uses.{FailsUse, IsPart, IsUsed, NamesParts, Tell, again, cell_of, free_after, last_of, part_again, part_of, stamps_after, wire_again, wire_of}
use Rattle.use_check.proofs.Claims.{OnPart, OnWire, part_uses, uses_cases, wire_uses}
use Rattle.use_check.proofs.Looking.{IsShort}
use Rattle.use_check.proofs.Noting.{later, noted}
use Rattle.use_check.proofs.Walk.{Longer, no_less}

-- ## The actions before a place

append_over : {X : Type 0} (xs ys zs : List X) → (xs ++ ys) ++ zs ≡ xs ++ (ys ++ zs)
append_over [] ys zs = refl
append_over (x ∷ xs) ys zs = ap (λ (l : List _). x ∷ l) (append_over xs ys zs)

taken_next : (t : ℕ) (actions : List Action) (j : ℕ) (a : Action) → slice_get actions j ≡ Some a → map (timed t) (take (suc j) actions) ≡ map (timed t) (take j actions) ++ timed t a ∷ []
taken_next t [] j a at = absurd (none-some a at)
taken_next t (b ∷ actions) zero a at = go actions ∙ ap (λ (x : Action). timed t x ∷ []) (same_Some b a at)
  where
    go : (rest : List Action) → timed t b ∷ map (timed t) (take 0 rest) ≡ timed t b ∷ []
    go [] = refl
    go (c ∷ rest) = refl
taken_next t (b ∷ actions) (suc j) a at = ap (λ (l : List Timed). timed t b ∷ l) (taken_next t actions j a at)

pub earlier_next : (slots : List Slot) (t j : ℕ) (a : Action) → slice_get (actions_of slots t) j ≡ Some a → earlier_actions slots t (j + 1) ≡ earlier_actions slots t j ++ timed t a ∷ []
earlier_next slots t j a at =
    let next : j + 1 ≡ suc j = omega arith in
    ap (earlier_actions slots t) next
    ∙ ap (λ (l : List Timed). timed_actions (take t slots) ++ l) (taken_next t (actions_of slots t) j a at)
    ∙ sym (append_over (timed_actions (take t slots)) (map (timed t) (take j (actions_of slots t))) (timed t a ∷ []))

none_taken : (n : ℕ) (slots : List Slot) → from n (take 0 slots) ≡ []
none_taken n [] = refl
none_taken n (slot ∷ slots) = refl

from_next : (n t : ℕ) (slots : List Slot) → from n (take (suc t) slots) ≡ from n (take t slots) ++ map (timed (n + t)) (actions_of slots t)
from_next n zero [] = refl
from_next n (suc t) [] = refl
from_next n zero (slot ∷ slots) =
    let number : n ≡ n + 0 = omega arith in
    ap (λ (l : List Timed). map (timed n) slot.actions ++ l) (none_taken (n + 1) slots)
    ∙ append-nil (map (timed n) slot.actions)
    ∙ ap (λ (k : ℕ). map (timed k) slot.actions) number
from_next n (suc t) (slot ∷ slots) =
    let number : n + 1 + t ≡ n + suc t = omega arith in
    ap (λ (l : List Timed). map (timed n) slot.actions ++ l) (from_next (n + 1) t slots)
    ∙ sym (append_over (map (timed n) slot.actions) (from (n + 1) (take t slots)) (map (timed (n + 1 + t)) (actions_of slots t)))
    ∙ ap (λ (k : ℕ). (map (timed n) slot.actions ++ from (n + 1) (take t slots)) ++ map (timed k) (actions_of slots t)) number

all_taken : {X : Type 0} (xs : List X) → take (length xs) xs ≡ xs
all_taken [] = refl
all_taken (x ∷ xs) = ap (λ (l : List _). x ∷ l) (all_taken xs)

pub earlier_slot : (slots : List Slot) (t : ℕ) → earlier_actions slots t (length (actions_of slots t)) ≡ earlier_actions slots (t + 1) 0
earlier_slot slots t =
    let number : t ≡ 0 + t = omega arith in
    let next : suc t ≡ t + 1 = omega arith in
    ap (λ (l : List Action). timed_actions (take t slots) ++ map (timed t) l) (all_taken (actions_of slots t))
    ∙ ap (λ (k : ℕ). timed_actions (take t slots) ++ map (timed k) (actions_of slots t)) number
    ∙ sym (from_next 0 t slots)
    ∙ ap (λ (k : ℕ). timed_actions (take k slots)) next
    ∙ sym (append-nil (timed_actions (take (t + 1) slots)))
    ∙ ap (λ (l : List Timed). timed_actions (take (t + 1) slots) ++ l) (sym (none (actions_of slots (t + 1))))
  where
    none : (actions : List Action) → map (timed (t + 1)) (take 0 actions) ≡ []
    none [] = refl
    none (a ∷ actions) = refl

-- ## Where the rule fails

module _ (wires : List Wire) (r : Results) where
  pub at_again : (at : Place) → FailsUse wires r at → (k t j : ℕ) × (what : Thing) × (at ≡ place.Again k t j what) × UsesAgain wires (frame_slots r k) t j what
  at_again (place.Again k t j what) f = (k, t, j, what, refl, f)
  at_again (place.Action k t j) f = absurd f
  at_again (place.Frame k) f = absurd f
  at_again (place.Chips m) f = absurd f
  at_again (place.Gate a b) f = absurd f
  at_again (place.Weight a b) f = absurd f
  at_again (place.Register a b) f = absurd f
  at_again (place.Memory a b) f = absurd f
  at_again (place.Input a) f = absurd f
  at_again (place.Element a) f = absurd f
  at_again (place.Output a) f = absurd f
  at_again (place.EndRegister a b d) f = absurd f
  at_again (place.EndMemory a b d) f = absurd f
  at_again (place.EndRead a b d e) f = absurd f

  pub longer : (n : ℕ) → n < 4 → Longer (FailsUse wires r) n
  longer n low at f =
      let a : (k t j : ℕ) × (what : Thing) × (at ≡ place.Again k t j what) × UsesAgain wires (frame_slots r k) t j what = at_again at f in
      subst (λ (p : Place). n < length (place_key p)) (sym a.4) (go a.3)
    where
      go : (what : Thing) → n < suc (suc (suc (length (thing_key what))))
      go (thing.Wire w) = omega (arith, low)
      go (thing.Register c x) = omega (arith, low)
      go (thing.Memory c m) = omega (arith, low)

  -- what is used again at a place under these numbers
  under_three : (k t j : ℕ) (at : Place) → Begins (k ∷ t ∷ j ∷ []) (place_key at) → FailsUse wires r at
      → (what : Thing) × (at ≡ place.Again k t j what) × UsesAgain wires (frame_slots r k) t j what
  under_three k t j at b f =
      let a : (k t j : ℕ) × (what : Thing) × (at ≡ place.Again k t j what) × UsesAgain wires (frame_slots r k) t j what = at_again at f in
      go a.0 a.1 a.2 a.3 (subst (λ (x : Place). Begins (k ∷ t ∷ j ∷ []) (place_key x)) a.4 b) a.4 a.5
    where
      go : (l u i : ℕ) (what : Thing) → Begins (k ∷ t ∷ j ∷ []) (l ∷ u ∷ i ∷ thing_key what) → at ≡ place.Again l u i what → UsesAgain wires (frame_slots r l) u i what
          → (what : Thing) × (at ≡ place.Again k t j what) × UsesAgain wires (frame_slots r k) t j what
      go l u i what e is g = (
        what,
        subst (λ (x : ℕ). at ≡ place.Again x t j what) (sym e.0) (subst (λ (x : ℕ). at ≡ place.Again l x j what) (sym e.1.0) (subst (λ (x : ℕ). at ≡ place.Again l u x what) (sym e.1.1.0) is)),
        subst (λ (x : ℕ). UsesAgain wires (frame_slots r x) t j what) (sym e.0)
            (subst (λ (x : ℕ). UsesAgain wires (frame_slots r l) x j what) (sym e.1.0)
            (subst (λ (x : ℕ). UsesAgain wires (frame_slots r l) u x what) (sym e.1.1.0) g)),
      )

  -- ### At one action

  module _ (k t j : ℕ) (a : Action) (here : slice_get (actions_of (frame_slots r k) t) j ≡ Some a) (free stamps : List ℕ)
      (told : Tell wires r.net (earlier_actions (frame_slots r k) t j) t free stamps) (there : NamesParts wires r.net a) (brief : IsShort (slots_taken wires a)) where
    some : 0 < slots_taken wires a
    some = brief.some

    abbrev end : ℕ
    end = last_of wires t a

    part_there : (x : Thing) → part_of wires a ≡ Some x → IsPart r.net x
    part_there x e = subst (λ (o : Option Thing). IfSome o (IsPart r.net)) e there.part

    used_again : (u : ℕ) (x : Thing) → uses_thing wires u x (timed t a) ≡ true → IsUsed wires (earlier_actions (frame_slots r k) t j) u x → UsesAgain wires (frame_slots r k) t j x
    used_again u x now before = record { action = a; here = here; earlier = before.by; before = before.one; slot = u; uses = now; used = before.uses }

    -- what is used again is the action's wire, which is not free, or its part, whose cell is stamped
    wire_busy : (u : ℕ) (w : WireId) → t ≤ u → IsUsed wires (earlier_actions (frame_slots r k) t j) u (thing.Wire w) → (o : Option WireId) → o ≡ Some w → wire_again free t o ≡ None → ⊥
    wire_busy u w from used o is fresh =
        let low : u < get_or free w.place 0 = told.wire_noted w u from used in
        let first : t < get_or free w.place 0 = omega (arith, low, from) in
        let test : nat_lt t (get_or free w.place 0) ≡ true = grind (arith, nat_tests) in
        none-some (thing.Wire w)
        (sym (subst (λ (o : Option WireId). wire_again free t o ≡ None) is fresh) ∙ ap (λ (b : Bool). cond b (Some (thing.Wire w)) None) test)

    part_busy : (u : ℕ) (x : Thing) → part_of wires a ≡ Some x → u + 1 ≡ t + slots_taken wires a → IsUsed wires (earlier_actions (frame_slots r k) t j) u x → part_again r.net stamps end (part_of wires a) ≡ None → ⊥
    part_busy u x is last used fresh =
        let slot : u ≡ end = omega (arith, last, some) in
        let from : t ≤ u = omega (arith, last, some) in
        let stamp : get_or stamps (cell_of r.net x u) 0 ≡ u + 1 = told.part_noted x u (part_there x is) from used in
        let mine : get_or stamps (cell_of r.net x end) 0 ≡ end + 1 = subst (λ (v : ℕ). get_or stamps (cell_of r.net x v) 0 ≡ v + 1) slot stamp in
        none-some x
        (sym (subst (λ (o : Option Thing). part_again r.net stamps end o ≡ None) is fresh)
        ∙ ap (λ (b : Bool). cond b (Some x) None) (same_number (get_or stamps (cell_of r.net x end) 0) (end + 1) mine))

    -- what an action uses again, in what slot and how
    pub record Meets (x : Thing) : Type 0 where
      slot : ℕ
      used : IsUsed wires (earlier_actions (frame_slots r k) t j) slot x
      way : OnWire wires slot x t a ⊎ OnPart wires slot x t a

    meets : (x : Thing) → UsesAgain wires (frame_slots r k) t j x → Meets x
    meets x f =
        let same : f.action ≡ a = same_Some f.action a (sym f.here ∙ here) in
        record {
          slot = f.slot;
          used = record { by = f.earlier; one = f.before; uses = f.used };
          way = uses_cases wires f.slot t x a (subst (λ (y : Action). uses_thing wires f.slot x (timed t y) ≡ true) same f.uses);
        }

    wire_meets : (x : Thing) (m : Meets x) → OnWire wires m.slot x t a → wire_again free t (wire_of a) ≡ None → ⊥
    wire_meets x m on fresh =
        wire_busy m.slot on.wire on.from (subst (λ (y : Thing). IsUsed wires (earlier_actions (frame_slots r k) t j) m.slot y) on.thing m.used) (wire_of a) on.is fresh

    part_meets : (x : Thing) (m : Meets x) → OnPart wires m.slot x t a → part_again r.net stamps end (part_of wires a) ≡ None → ⊥
    part_meets x m on fresh = part_busy m.slot x on.is on.end m.used fresh

    first_none : {X : Type 0} (a b : Option X) → option_or a b ≡ None → (a ≡ None) × (b ≡ None)
    first_none None b e = (refl, e)
    first_none (Some x) b e = absurd (none-some x (sym e))

    pub passed : again wires r.net free stamps t a ≡ None → IsLeastUnder (FailsUse wires r) (k ∷ t ∷ j ∷ []) None
    passed fresh at b f =
        let g : (what : Thing) × (at ≡ place.Again k t j what) × UsesAgain wires (frame_slots r k) t j what = under_three k t j at b f in
        let apart : (wire_again free t (wire_of a) ≡ None) × (part_again r.net stamps end (part_of wires a) ≡ None) = first_none (wire_again free t (wire_of a)) (part_again r.net stamps end (part_of wires a)) fresh in
        go g.0 (meets g.0 g.2) (meets g.0 g.2).way apart
      where
        go : (x : Thing) (m : Meets x) → OnWire wires m.slot x t a ⊎ OnPart wires m.slot x t a → (wire_again free t (wire_of a) ≡ None) × (part_again r.net stamps end (part_of wires a) ≡ None) → ⊥
        go x m (inl on) apart = wire_meets x m on apart.0
        go x m (inr on) apart = part_meets x m on apart.1

    strip : (x y : Thing) → Precedes (k ∷ t ∷ j ∷ thing_key y) (k ∷ t ∷ j ∷ thing_key x) → Precedes (thing_key y) (thing_key x)
    strip x y (inl less) = absurd (omega (arith, less))
    strip x y (inr (e, inl less)) = absurd (omega (arith, less))
    strip x y (inr (e, inr (f, inl less))) = absurd (omega (arith, less))
    strip x y (inr (e, inr (f, inr (g, rest)))) = rest

    part_later : (w : WireId) (y : Thing) → IsPart r.net y → Precedes (thing_key y) (thing_key (thing.Wire w)) → ⊥
    part_later w (thing.Wire v) p q = p
    part_later w (thing.Register c x) p (inl less) = omega (arith, less)
    part_later w (thing.Register c x) p (inr e) = let one : 1 ≡ 0 = e.0 in omega (arith, one)
    part_later w (thing.Memory c m) p (inl less) = omega (arith, less)
    part_later w (thing.Memory c m) p (inr e) = let two : 2 ≡ 0 = e.0 in omega (arith, two)

    -- a thing that fails, with none before it at this action
    least_here : (x : Thing) → UsesAgain wires (frame_slots r k) t j x → ((y : Thing) → UsesAgain wires (frame_slots r k) t j y → Precedes (thing_key y) (thing_key x) → ⊥)
        → IsLeastUnder (FailsUse wires r) (k ∷ t ∷ j ∷ []) (Some (place.Again k t j x))
    least_here x fails none = ((refl, (refl, (refl, tt))), fails, other)
      where
        other : (at : Place) → Begins (k ∷ t ∷ j ∷ []) (place_key at) → Precedes (place_key at) (place_key (place.Again k t j x)) → FailsUse wires r at → ⊥
        other at b p f =
            let g : (what : Thing) × (at ≡ place.Again k t j what) × UsesAgain wires (frame_slots r k) t j what = under_three k t j at b f in
            none g.0 g.2 (strip x g.0 (subst (λ (q : Place). Precedes (place_key q) (place_key (place.Again k t j x))) g.1 p))

    wire_found : (w : WireId) → wire_of a ≡ Some w → t < get_or free w.place 0 → IsLeastUnder (FailsUse wires r) (k ∷ t ∷ j ∷ []) (Some (place.Again k t j (thing.Wire w)))
    wire_found w is low =
        least_here (thing.Wire w)
        (used_again t (thing.Wire w) (wire_uses wires t t w a is (omega arith) (omega (arith, some))) (told.wire_used w t (omega arith) low))
        (λ y f p. go y (meets y f) (meets y f).way p)
      where
        go : (y : Thing) (m : Meets y) → OnWire wires m.slot y t a ⊎ OnPart wires m.slot y t a → Precedes (thing_key y) (thing_key (thing.Wire w)) → ⊥
        go y m (inl on) p =
            let same : y ≡ thing.Wire w = on.thing ∙ ap (λ (v : WireId). thing.Wire v) (same_Some on.wire w (sym on.is ∙ is)) in
            no_less (thing_key (thing.Wire w)) (subst (λ (z : Thing). Precedes (thing_key z) (thing_key (thing.Wire w))) same p)
        go y m (inr on) p = part_later w y (part_there y on.is) p

    part_found : (x : Thing) → part_of wires a ≡ Some x → wire_again free t (wire_of a) ≡ None → get_or stamps (cell_of r.net x end) 0 ≡ end + 1 → IsLeastUnder (FailsUse wires r) (k ∷ t ∷ j ∷ []) (Some (place.Again k t j x))
    part_found x is fresh stamp =
        let last : end + 1 ≡ t + slots_taken wires a = omega (arith, some) in
        least_here x
        (used_again end x (part_uses wires end t x a is (omega (arith, some)) last) (told.part_used x end (part_there x is) (omega (arith, some)) stamp))
        (λ y f p. go y (meets y f) (meets y f).way p)
      where
        go : (y : Thing) (m : Meets y) → OnWire wires m.slot y t a ⊎ OnPart wires m.slot y t a → Precedes (thing_key y) (thing_key x) → ⊥
        go y m (inl on) p = wire_meets y m on fresh
        go y m (inr on) p =
            no_less (thing_key x) (subst (λ (z : Thing). Precedes (thing_key z) (thing_key x)) (same_Some y x (sym on.is ∙ is)) p)

    pub found : (x : Thing) → again wires r.net free stamps t a ≡ Some x → IsLeastUnder (FailsUse wires r) (k ∷ t ∷ j ∷ []) (Some (place.Again k t j x))
    found x is = by_wire (wire_of a) refl (wire_again free t (wire_of a)) refl is
      where
        by_part : (o : Option Thing) → part_of wires a ≡ o → part_again r.net stamps end o ≡ Some x → wire_again free t (wire_of a) ≡ None → IsLeastUnder (FailsUse wires r) (k ∷ t ∷ j ∷ []) (Some (place.Again k t j x))
        by_part None e h fresh = absurd (none-some x h)
        by_part (Some y) e h fresh = test (get_or stamps (cell_of r.net y end) 0 == end + 1) refl h
          where
            test : (b : Bool) → (get_or stamps (cell_of r.net y end) 0 == end + 1) ≡ b → cond b (Some y) None ≡ Some x → IsLeastUnder (FailsUse wires r) (k ∷ t ∷ j ∷ []) (Some (place.Again k t j x))
            test true s g =
                subst (λ (z : Thing). IsLeastUnder (FailsUse wires r) (k ∷ t ∷ j ∷ []) (Some (place.Again k t j z))) (same_Some y x g)
                (part_found y e fresh (number_same (get_or stamps (cell_of r.net y end) 0) (end + 1) s))
            test false s g = absurd (none-some x g)

        by_wire : (o : Option WireId) → wire_of a ≡ o → (m : Option Thing) → wire_again free t o ≡ m → option_or m (part_again r.net stamps end (part_of wires a)) ≡ Some x → IsLeastUnder (FailsUse wires r) (k ∷ t ∷ j ∷ []) (Some (place.Again k t j x))
        by_wire o e None h g = by_part (part_of wires a) refl g (subst (λ (q : Option WireId). wire_again free t q ≡ None) (sym e) h)
        by_wire None e (Some y) h g = absurd (none-some y h)
        by_wire (Some w) e (Some y) h g = test (nat_lt t (get_or free w.place 0)) refl h
          where
            test : (b : Bool) → nat_lt t (get_or free w.place 0) ≡ b → cond b (Some (thing.Wire w)) None ≡ Some y → IsLeastUnder (FailsUse wires r) (k ∷ t ∷ j ∷ []) (Some (place.Again k t j x))
            test true s q =
                let low : t < get_or free w.place 0 = grind (arith, nat_tests) in
                subst (λ (z : Thing). IsLeastUnder (FailsUse wires r) (k ∷ t ∷ j ∷ []) (Some (place.Again k t j z))) (same_Some (thing.Wire w) y q ∙ same_Some y x g)
                (wire_found w e low)
            test false s q = absurd (none-some y q)

  -- ### Behind the last

  pub past_actions : (k t j : ℕ) → length (actions_of (frame_slots r k) t) ≤ j → IsLeastUnder (FailsUse wires r) (k ∷ t ∷ j ∷ []) None
  past_actions k t j past at b f =
      let g : (what : Thing) × (at ≡ place.Again k t j what) × UsesAgain wires (frame_slots r k) t j what = under_three k t j at b f in
      none-some g.2.action (sym (slice_get_past (actions_of (frame_slots r k) t) j past) ∙ g.2.here)

  pub past_slots : (k t : ℕ) → length (frame_slots r k) ≤ t → IsLeastUnder (FailsUse wires r) (k ∷ t ∷ []) None
  past_slots k t past at b f =
      let a : (k t j : ℕ) × (what : Thing) × (at ≡ place.Again k t j what) × UsesAgain wires (frame_slots r k) t j what = at_again at f in
      go a.0 a.1 a.2 a.3 (subst (λ (x : Place). Begins (k ∷ t ∷ []) (place_key x)) a.4 b) a.5
    where
      none : (j : ℕ) → slice_get (actions_of (frame_slots r k) t) j ≡ None
      none j = ap (λ (o : Option Slot). slice_get (option_map_or (λ (slot : Slot). slot.actions) o []) j) (slice_get_past (frame_slots r k) t past)

      go : (l u i : ℕ) (what : Thing) → Begins (k ∷ t ∷ []) (l ∷ u ∷ i ∷ thing_key what) → UsesAgain wires (frame_slots r l) u i what → ⊥
      go l u i what e f =
          let at : slice_get (actions_of (frame_slots r k) t) i ≡ Some f.action =
          subst (λ (x : ℕ). slice_get (actions_of (frame_slots r x) t) i ≡ Some f.action) (sym e.0)
          (subst (λ (x : ℕ). slice_get (actions_of (frame_slots r l) x) i ≡ Some f.action) (sym e.1.0) f.here)
          in
          none-some f.action (sym (none i) ∙ at)

  pub past_frames : (k : ℕ) → length r.schedule.frames ≤ k → IsLeastUnder (FailsUse wires r) (k ∷ []) None
  past_frames k past at b f =
      let a : (k t j : ℕ) × (what : Thing) × (at ≡ place.Again k t j what) × UsesAgain wires (frame_slots r k) t j what = at_again at f in
      let first : Begins (k ∷ []) (a.0 ∷ a.1 ∷ a.2 ∷ thing_key a.3) = subst (λ (x : Place). Begins (k ∷ []) (place_key x)) a.4 b in
      past_slots k a.1 none at (subst (λ (x : Place). Begins (k ∷ a.1 ∷ []) (place_key x)) (sym a.4) (first.0, (refl, tt))) f
    where
      none : {t : ℕ} → length (frame_slots r k) ≤ t
      none {t} = subst (λ (o : Option Frame). length (option_map_or (λ (frame : Frame). frame.slots) o []) ≤ t) (sym (slice_get_past r.schedule.frames k past)) (omega arith)

-- ## What the loops keep

-- an action that uses nothing again is noted in the tables
pub noted_next : (wires : List Wire) (chips : List Chip) (slots : List Slot) (t j : ℕ) (a : Action) (free stamps free_now stamps_now : List ℕ)
    → slice_get (actions_of slots t) j ≡ Some a → Tell wires chips (earlier_actions slots t j) t free stamps → NamesParts wires chips a → IsShort (slots_taken wires a)
    → again wires chips free stamps t a ≡ None → free_now ≡ free_after free (last_of wires t a) (wire_of a) → stamps_now ≡ stamps_after chips stamps (last_of wires t a) (part_of wires a)
    → Tell wires chips (earlier_actions slots t (j + 1)) t free_now stamps_now
noted_next wires chips slots t j a free stamps free_now stamps_now at told there short fresh f s =
    subst (λ (before : List Timed). Tell wires chips before t free_now stamps_now) (sym (earlier_next slots t j a at))
    (subst (λ (fs : List ℕ). Tell wires chips (earlier_actions slots t j ++ timed t a ∷ []) t fs stamps_now) (sym f)
    (subst (λ (ss : List ℕ). Tell wires chips (earlier_actions slots t j ++ timed t a ∷ []) t (free_after free (last_of wires t a) (wire_of a)) ss) (sym s)
    (noted wires chips (earlier_actions slots t j) t free stamps told a there short.some short.few fresh)))

-- and so is a slot of which all actions are noted
pub slot_next : (wires : List Wire) (chips : List Chip) (slots : List Slot) (t n : ℕ) (free stamps : List ℕ) → n ≡ length (actions_of slots t)
    → Tell wires chips (earlier_actions slots t n) t free stamps → Tell wires chips (earlier_actions slots (t + 1) 0) (t + 1) free stamps
slot_next wires chips slots t n free stamps all told =
    later wires chips (earlier_actions slots (t + 1) 0) t free stamps
    (subst (λ (before : List Timed). Tell wires chips before t free stamps) (ap (earlier_actions slots t) all ∙ earlier_slot slots t) told)

-- the actions of a slot that was read
pub actions_at : (xs ys : List Slot) (t : ℕ) (x : Slot) → xs ≡ ys → t < length xs → x ≡ get_or xs t x → actions_of ys t ≡ x.actions
actions_at xs ys t x same low is =
    ap (λ (o : Option Slot). option_map_or (λ (slot : Slot). slot.actions) o [])
    (subst (λ (zs : List Slot). slice_get zs t ≡ Some x) same (slice_get_read xs (length xs) t x refl low is))

-- an action that was read
pub action_at : (xs ys : List Action) (j : ℕ) (d : Action) → xs ≡ ys → j < length xs → slice_get ys j ≡ Some (get_or xs j d)
action_at xs ys j d same low = subst (λ (zs : List Action). slice_get zs j ≡ Some (get_or xs j d)) same (slice_get-get_or xs j d low)
