-- What an action uses, told by its wire, and by its register or memory.
use Rattle.std.proofs.Common.{◌≡◌, ◌<◌, ◌≤◌, ◌+◌, ◌⊎◌, ℕ, Bool, true, false, List, [], ◌++◌, Option, None, Some, inl, inr, refl, sym, subst, ap, ◌∙◌, arith}
use Rattle.std.specs.Prelude.{◌==◌, ◌&&◌, ◌||◌, nat_le, nat_lt, slice_get, option_map}
use Rattle.std.specs.List.{list_any}
use Rattle.std.specs.Option.{option_map_or}
use Rattle.std.proofs.lemmas.Bool.Decides.{nat_tests}
use Rattle.std.proofs.lemmas.Option.{none-some, same_Some}
use Rattle.facts.proofs.Tests.{left, right, no, number_same, same_number}
use Rattle.id_arena.specs.declared.keys.WireId.{WireId}
use Rattle.id_arena.specs.declared.wire.Wire.{Wire}
use Rattle.emu_machine.specs.declared.schedule.Action.{Action}
use Rattle.emu_machine.specs.declared.schedule.Action.TheVariants as action
use Rattle.emu_machine.specs.declared.place.Thing.{Thing}
use Rattle.emu_machine.specs.declared.place.Thing.TheVariants as thing
use Rattle.emu_machine.specs.State.{timed, slots_taken, is_under_way, is_last}
use Rattle.emu_machine.specs.Acceptance.{same_thing, used_if, uses_thing}
use Rattle.use_check.specs.Uses.{wire_of, part_of}

same_refl : (x : Thing) → same_thing x x ≡ true
same_refl (thing.Wire a) = same_number a.place a.place refl
same_refl (thing.Register a i) = both (a.place == a.place) (i.place == i.place) (same_number a.place a.place refl) (same_number i.place i.place refl)
  where
    both : (b c : Bool) → b ≡ true → c ≡ true → (b && c) ≡ true
    both true true e f = refl
    both true false e f = no f
    both false c e f = no e
same_refl (thing.Memory a i) = both (a.place == a.place) (i.place == i.place) (same_number a.place a.place refl) (same_number i.place i.place refl)
  where
    both : (b c : Bool) → b ≡ true → c ≡ true → (b && c) ≡ true
    both true true e f = refl
    both true false e f = no f
    both false c e f = no e

same_is : (x y : Thing) → same_thing x y ≡ true → x ≡ y
same_is (thing.Wire a) (thing.Wire b) e = ap (λ (n : ℕ). thing.Wire (record { place = n })) (number_same a.place b.place e)
same_is (thing.Wire a) (thing.Register b j) e = no e
same_is (thing.Wire a) (thing.Memory b j) e = no e
same_is (thing.Register a i) (thing.Wire b) e = no e
same_is (thing.Register a i) (thing.Register b j) e =
    ap (λ (n : ℕ). thing.Register (record { place = n }) i) (number_same a.place b.place (left (a.place == b.place) (i.place == j.place) e))
    ∙ ap (λ (n : ℕ). thing.Register b (record { place = n })) (number_same i.place j.place (right (a.place == b.place) (i.place == j.place) e))
same_is (thing.Register a i) (thing.Memory b j) e = no e
same_is (thing.Memory a i) (thing.Wire b) e = no e
same_is (thing.Memory a i) (thing.Register b j) e = no e
same_is (thing.Memory a i) (thing.Memory b j) e =
    ap (λ (n : ℕ). thing.Memory (record { place = n }) i) (number_same a.place b.place (left (a.place == b.place) (i.place == j.place) e))
    ∙ ap (λ (n : ℕ). thing.Memory b (record { place = n })) (number_same i.place j.place (right (a.place == b.place) (i.place == j.place) e))

-- what one test lets be used
one_used : (test : Bool) (x y : Thing) → list_any (same_thing x) (used_if test y) ≡ true → (test ≡ true) × (x ≡ y)
one_used true x y e = (refl, same_is x y (go (same_thing x y) e))
  where
    go : (b : Bool) → (b || false) ≡ true → b ≡ true
    go true e = refl
    go false e = e
one_used false x y e = no e

used_one : (test : Bool) (x : Thing) → test ≡ true → list_any (same_thing x) (used_if test x) ≡ true
used_one true x e = ap (λ (b : Bool). b || false) (same_refl x)
used_one false x e = no e

-- the slots of an action
way : (s n u : ℕ) → (nat_le s u && nat_lt u (s + n)) ≡ true → (s ≤ u) × (u < s + n)
way s n u e =
    let a : nat_le s u ≡ true = left (nat_le s u) (nat_lt u (s + n)) e in
    let b : nat_lt u (s + n) ≡ true = right (nat_le s u) (nat_lt u (s + n)) e in
    let c : s ≤ u = grind (arith, nat_tests) in
    let d : u < s + n = grind (arith, nat_tests) in
    (c, d)

on_way : (s n u : ℕ) → s ≤ u → u < s + n → (nat_le s u && nat_lt u (s + n)) ≡ true
on_way s n u a b = grind (arith, nat_tests)

ends : (s n u : ℕ) → (nat_le s u && (u + 1 == s + n)) ≡ true → (s ≤ u) × (u + 1 ≡ s + n)
ends s n u e =
    let a : nat_le s u ≡ true = left (nat_le s u) (u + 1 == s + n) e in
    let c : s ≤ u = grind (arith, nat_tests) in
    (c, number_same (u + 1) (s + n) (right (nat_le s u) (u + 1 == s + n) e))

at_end : (s n u : ℕ) → s ≤ u → u + 1 ≡ s + n → (nat_le s u && (u + 1 == s + n)) ≡ true
at_end s n u a b = grind (arith, nat_tests)

module _ (wires : List Wire) where
  -- an action of slot `s` uses its wire in slot `u`
  pub record OnWire (u : ℕ) (x : Thing) (s : ℕ) (a : Action) : Type 0 where
    pub wire : WireId
    pub is : wire_of a ≡ Some wire
    pub thing : x ≡ thing.Wire wire
    pub from : s ≤ u
    pub to : u < s + slots_taken wires a

  -- or its register or memory
  pub record OnPart (u : ℕ) (x : Thing) (s : ℕ) (a : Action) : Type 0 where
    pub is : part_of wires a ≡ Some x
    pub from : s ≤ u
    pub end : u + 1 ≡ s + slots_taken wires a

  part_only : (u s : ℕ) (x y : Thing) (a : Action) → part_of wires a ≡ Some y → list_any (same_thing x) (used_if (is_last wires u (timed s a)) y) ≡ true → OnPart u x s a
  part_only u s x y a is e =
      let one : (is_last wires u (timed s a) ≡ true) × (x ≡ y) = one_used (is_last wires u (timed s a)) x y e in
      let slots : (s ≤ u) × (u + 1 ≡ s + slots_taken wires a) = ends s (slots_taken wires a) u one.0 in
      record { is = is ∙ ap (λ (z : Thing). Some z) (sym one.1); from = slots.0; end = slots.1 }

  any_either : (x : Thing) (test : Bool) (y : Thing) (rest : List Thing) → list_any (same_thing x) (used_if test y ++ rest) ≡ true
      → (list_any (same_thing x) (used_if test y) ≡ true) ⊎ (list_any (same_thing x) rest ≡ true)
  any_either x true y rest e = go (same_thing x y) e
    where
      go : (b : Bool) → (b || list_any (same_thing x) rest) ≡ true → ((b || false) ≡ true) ⊎ (list_any (same_thing x) rest ≡ true)
      go true e = inl refl
      go false e = inr e
  any_either x false y rest e = inr e

  any_left : (x : Thing) (test : Bool) (y : Thing) (rest : List Thing) → list_any (same_thing x) (used_if test y) ≡ true → list_any (same_thing x) (used_if test y ++ rest) ≡ true
  any_left x true y rest e = go (same_thing x y) e
    where
      go : (b : Bool) → (b || false) ≡ true → (b || list_any (same_thing x) rest) ≡ true
      go true e = refl
      go false e = no e
  any_left x false y rest e = no e

  any_right : (x : Thing) (test : Bool) (y : Thing) (rest : List Thing) → list_any (same_thing x) rest ≡ true → list_any (same_thing x) (used_if test y ++ rest) ≡ true
  any_right x true y rest e = go (same_thing x y)
    where
      go : (b : Bool) → (b || list_any (same_thing x) rest) ≡ true
      go true = refl
      go false = e
  any_right x false y rest e = e

  -- an action uses its wire, or its register or memory, and nothing else
  pub uses_cases : (u s : ℕ) (x : Thing) (a : Action) → uses_thing wires u x (timed s a) ≡ true → OnWire u x s a ⊎ OnPart u x s a
  uses_cases u s x (action.Input chip register net) e = inr (part_only u s x (thing.Register chip register) (action.Input chip register net) refl e)
  uses_cases u s x (action.Load chip register) e = inr (part_only u s x (thing.Register chip register) (action.Load chip register) refl e)
  uses_cases u s x (action.Write chip mem port) e = inr (part_only u s x (thing.Memory chip mem) (action.Write chip mem port) refl e)
  uses_cases u s x (action.Read chip mem port) e = inr (part_only u s x (thing.Memory chip mem) (action.Read chip mem port) refl e)
  uses_cases u s x (action.Send wire net register) e =
      go (any_either x (is_under_way wires u (timed s (action.Send wire net register))) (thing.Wire wire)
      (option_map_or (λ (ends : Wire). used_if (is_last wires u (timed s (action.Send wire net register))) (thing.Register ends.to register)) (slice_get wires wire.place) []) e)
    where
      far : (o : Option Wire) → slice_get wires wire.place ≡ o
          → list_any (same_thing x) (option_map_or (λ (ends : Wire). used_if (is_last wires u (timed s (action.Send wire net register))) (thing.Register ends.to register)) o []) ≡ true
          → OnPart u x s (action.Send wire net register)
      far None is e = no e
      far (Some ends) is e =
          part_only u s x (thing.Register ends.to register) (action.Send wire net register)
          (ap (λ (o : Option Wire). option_map (λ (ends : Wire). thing.Register ends.to register) o) is) e

      go : (list_any (same_thing x) (used_if (is_under_way wires u (timed s (action.Send wire net register))) (thing.Wire wire)) ≡ true)
          ⊎ (list_any (same_thing x) (option_map_or (λ (ends : Wire). used_if (is_last wires u (timed s (action.Send wire net register))) (thing.Register ends.to register)) (slice_get wires wire.place) []) ≡ true)
          → OnWire u x s (action.Send wire net register) ⊎ OnPart u x s (action.Send wire net register)
      go (inl h) =
          let one : (is_under_way wires u (timed s (action.Send wire net register)) ≡ true) × (x ≡ thing.Wire wire) = one_used _ x (thing.Wire wire) h in
          let slots : (s ≤ u) × (u < s + slots_taken wires (action.Send wire net register)) = way s (slots_taken wires (action.Send wire net register)) u one.0 in
          inl (record { wire = wire; is = refl; thing = one.1; from = slots.0; to = slots.1 })
      go (inr h) = inr (far (slice_get wires wire.place) refl h)

  pub wire_uses : (u s : ℕ) (w : WireId) (a : Action) → wire_of a ≡ Some w → s ≤ u → u < s + slots_taken wires a → uses_thing wires u (thing.Wire w) (timed s a) ≡ true
  wire_uses u s w (action.Send wire net register) is from to =
      any_left (thing.Wire w) (is_under_way wires u (timed s (action.Send wire net register))) (thing.Wire wire)
      (option_map_or (λ (ends : Wire). used_if (is_last wires u (timed s (action.Send wire net register))) (thing.Register ends.to register)) (slice_get wires wire.place) [])
      (subst (λ (v : WireId). list_any (same_thing (thing.Wire w)) (used_if (is_under_way wires u (timed s (action.Send wire net register))) (thing.Wire v)) ≡ true) (sym (same_Some wire w is))
      (used_one (is_under_way wires u (timed s (action.Send wire net register))) (thing.Wire w) (on_way s (slots_taken wires (action.Send wire net register)) u from to)))
  wire_uses u s w (action.Input chip register net) is from to = absurd (none-some w is)
  wire_uses u s w (action.Load chip register) is from to = absurd (none-some w is)
  wire_uses u s w (action.Write chip mem port) is from to = absurd (none-some w is)
  wire_uses u s w (action.Read chip mem port) is from to = absurd (none-some w is)

  part_used : (u s : ℕ) (x y : Thing) (a : Action) → Some y ≡ Some x → s ≤ u → u + 1 ≡ s + slots_taken wires a → list_any (same_thing x) (used_if (is_last wires u (timed s a)) y) ≡ true
  part_used u s x y a is from end =
      subst (λ (z : Thing). list_any (same_thing x) (used_if (is_last wires u (timed s a)) z) ≡ true) (sym (same_Some y x is))
      (used_one (is_last wires u (timed s a)) x (at_end s (slots_taken wires a) u from end))

  pub part_uses : (u s : ℕ) (x : Thing) (a : Action) → part_of wires a ≡ Some x → s ≤ u → u + 1 ≡ s + slots_taken wires a → uses_thing wires u x (timed s a) ≡ true
  part_uses u s x (action.Input chip register net) is from end = part_used u s x (thing.Register chip register) (action.Input chip register net) is from end
  part_uses u s x (action.Load chip register) is from end = part_used u s x (thing.Register chip register) (action.Load chip register) is from end
  part_uses u s x (action.Write chip mem port) is from end = part_used u s x (thing.Memory chip mem) (action.Write chip mem port) is from end
  part_uses u s x (action.Read chip mem port) is from end = part_used u s x (thing.Memory chip mem) (action.Read chip mem port) is from end
  part_uses u s x (action.Send wire net register) is from end =
      any_right x (is_under_way wires u (timed s (action.Send wire net register))) (thing.Wire wire)
      (option_map_or (λ (ends : Wire). used_if (is_last wires u (timed s (action.Send wire net register))) (thing.Register ends.to register)) (slice_get wires wire.place) [])
      (far (slice_get wires wire.place) is)
    where
      far : (o : Option Wire) → option_map (λ (ends : Wire). thing.Register ends.to register) o ≡ Some x
          → list_any (same_thing x) (option_map_or (λ (ends : Wire). used_if (is_last wires u (timed s (action.Send wire net register))) (thing.Register ends.to register)) o []) ≡ true
      far None e = absurd (none-some x e)
      far (Some ends) e = part_used u s x (thing.Register ends.to register) (action.Send wire net register) e from end
