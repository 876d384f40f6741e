-- Sends that use a wire again, and modules that are counted.
use Rattle.std.proofs.Common.{◌≡◌, ◌<◌, ◌≤◌, ◌+◌, ℕ, zero, suc, arith, Bool, true, false, List, [], ◌∷◌, length, map, take, refl, ap, subst, ◌∙◌, inl, inr}
use Rattle.std.specs.Prelude.{◌⊎◌, ◌==◌, ◌&&◌, ◌||◌, nat_le, nat_lt, if◌then◌else◌, Some, slice_get, Contains}
use Rattle.std.specs.List.{list_any}
use Rattle.std.specs.Option.{option_map_or}
use Rattle.std.proofs.lemmas.Bool.Decides.{nat_tests}
use Rattle.std.proofs.lemmas.Bool.{cases_eq}
use Rattle.std.proofs.lemmas.List.Elements.{Contains-append_left, Contains-append_right}
use Rattle.std.proofs.lemmas.Option.{none-some, slice_get_within, get_or_from_slice_get}
use Rattle.id_arena.specs.declared.keys.ChipNetId.{ChipNetId}
use Rattle.id_arena.specs.declared.keys.RegId.{RegId}
use Rattle.id_arena.specs.declared.keys.WireId.{WireId}
use Rattle.id_arena.specs.declared.wire.Wire.{Wire}
use Rattle.emu_machine.specs.declared.place.Place.TheVariants as place
use Rattle.emu_machine.specs.declared.place.Thing.TheVariants as thing
use Rattle.emu_machine.specs.declared.schedule.Action.{Action}
use Rattle.emu_machine.specs.declared.schedule.Action.TheVariants.{Send}
use Rattle.emu_machine.specs.declared.schedule.Slot.{Slot}
use Rattle.emu_machine.specs.State.{actions_of, timed, timed_actions, is_under_way, is_last, slots_taken}
use Rattle.emu_machine.specs.declared.rule.Rule.TheVariants.{A1}
use Rattle.emu_machine.specs.Acceptance.{Holds, UsesAgain, uses_thing, uses_of, same_thing, earlier_actions}
use Rattle.emu_machine.specs.Readings.{SendsUseAgain, SendsUseTwice, ModulesAreCounted}
use Rattle.emu_machine.proofs.OneSlot.{from, map_in, tail_in, earlier_here}

contained : {X : Type 0} (xs : List X) (k : ℕ) (x : X) → slice_get xs k ≡ Some x → Contains xs x
contained xs k x at = (k, slice_get_within xs k x at, get_or_from_slice_get xs k x x at)

-- an action of a slot before the first `t` is one of their actions
in_first : (n s t k i : ℕ) (slots : List Slot) (a : Action) → slice_get (actions_of slots s) i ≡ Some a → s < t → k ≡ n + s
    → Contains (from n (take t slots)) (timed k a)
in_first n s t k i [] a at less same = absurd (none-some a at)
in_first n s zero k i (slot ∷ slots) a at less same = absurd (omega (arith, less))
in_first n zero (suc t) k i (slot ∷ slots) a at less same =
    let e : n ≡ k = omega (arith, same) in
    subst (λ (m : ℕ). Contains (from n (slot ∷ take t slots)) (timed m a)) e
    (Contains-append_left (map (timed n) slot.actions) (from (n + 1) (take t slots)) (timed n a) (map_in (timed n) slot.actions a (contained slot.actions i a at)))
in_first n (suc s) (suc t) k i (slot ∷ slots) a at less same =
    Contains-append_right (map (timed n) slot.actions) (from (n + 1) (take t slots)) (timed k a)
    (in_first (n + 1) s t k i slots a at (omega (arith, less)) (omega (arith, same)))

under_way : (slot taken t : ℕ) → slot ≤ t → t < slot + taken → (nat_le slot t && nat_lt t (slot + taken)) ≡ true
under_way slot taken t early late =
    let lower : nat_le slot t ≡ true = grind (arith, nat_tests) in
    let upper : nat_lt t (slot + taken) ≡ true = grind (arith, nat_tests) in
    ap (λ b. b && nat_lt t (slot + taken)) lower ∙ upper

same : (w : ℕ) → (w == w) ≡ true
same w = grind (arith, nat_tests)

-- a `send` uses its wire in each slot in which it is under way
uses_wire : (wires : List Wire) (wire : WireId) (net : ChipNetId) (register : RegId) (under_way last : Bool) → under_way ≡ true
    → list_any (same_thing (thing.Wire wire)) (uses_of wires under_way last (Send wire net register)) ≡ true
uses_wire wires wire net register false last e = absurd (no e)
  where
    no : false ≡ true → ⊥
    no e = cc
uses_wire wires wire net register true last e =
    ap
    (λ b. b || list_any (same_thing (thing.Wire wire)) (option_map_or (λ (ends : Wire). if last then thing.Register ends.to register ∷ [] else []) (slice_get wires wire.place) []))
    (same wire.place)

module _ (wires : List Wire) (wire : WireId) (ends : Wire) (there : slice_get wires wire.place ≡ Some ends) where
  uses_in_time : (s t : ℕ) (net : ChipNetId) (register : RegId) → s ≤ t → t < s + ends.latency
      → uses_thing wires t (thing.Wire wire) (timed s (Send wire net register)) ≡ true
  uses_in_time s t net register early late =
      let taken : slots_taken wires (Send wire net register) ≡ ends.latency = ap (λ o. option_map_or (λ (e : Wire). e.latency) o 1) there in
      uses_wire wires wire net register (is_under_way wires t (timed s (Send wire net register))) (is_last wires t (timed s (Send wire net register)))
      (under_way s (slots_taken wires (Send wire net register)) t early (omega (arith, late, taken)))

  again_by : (slots : List Slot) (s t j : ℕ) (net other : ChipNetId) (register far : RegId)
      → slice_get (actions_of slots t) j ≡ Some (Send wire other far)
      → Contains (earlier_actions slots t j) (timed s (Send wire net register))
      → s ≤ t → t < s + ends.latency → UsesAgain wires slots t j (thing.Wire wire)
  again_by slots s t j net other register far at before early late =
      record {
        action = Send wire other far;
        here = at;
        earlier = timed s (Send wire net register);
        before = before;
        slot = t;
        uses = uses_in_time t t other far (omega arith) (omega (arith, early, late));
        used = uses_in_time s t net register early late;
      }

pub use_again : SendsUseAgain
use_again wires slots wire ends s t i j net other register far there first second less late =
    again_by wires wire ends there slots s t j net other register far second
    (Contains-append_left (timed_actions (take t slots)) (map (timed t) (take j (actions_of slots t))) (timed s (Send wire net register))
    (in_first 0 s t s i slots (Send wire net register) first less (omega arith)))
    (omega (arith, less)) late

taken_at : {X : Type 0} (xs : List X) (i j : ℕ) (x : X) → slice_get xs i ≡ Some x → i < j → Contains (take j xs) x
taken_at [] i j x at less = absurd (none-some x at)
taken_at (y ∷ xs) i zero x at less = absurd (omega (arith, less))
taken_at (y ∷ xs) zero (suc j) x at less = contained (y ∷ take j xs) 0 x at
taken_at (y ∷ xs) (suc i) (suc j) x at less = tail_in y x (take j xs) (taken_at xs i j x at (omega (arith, less)))

pub use_twice : SendsUseTwice
use_twice wires slots wire ends t i j net other register far there some first second less =
    again_by wires wire ends there slots t t j net other register far second
    (earlier_here slots t j (Send wire net register) (taken_at (actions_of slots t) i j (Send wire net register) first less))
    (omega arith) (omega (arith, some))

pub counted : ModulesAreCounted
counted c inside = (λ holds. by_number holds (cases_eq (length c.results.net) (length c.board.rooms)), λ e. none e)
  where
    by_number : Holds c inside A1 → (length c.results.net ≡ length c.board.rooms) ⊎ (length c.results.net ≡ length c.board.rooms → ⊥)
        → length c.results.net ≡ length c.board.rooms
    by_number holds (inl e) = e
    by_number holds (inr other) = absurd (holds (place.Chips (length c.results.net)) (refl, other))

    none : length c.results.net ≡ length c.board.rooms → Holds c inside A1
    none e (place.Chips modules) fails = fails.1 (fails.0 ∙ e)
    none e (place.Gate chip gate) fails = fails
    none e (place.Weight chip weight) fails = fails
    none e (place.Frame k) fails = fails
    none e (place.Action k t j) fails = fails
    none e (place.Again k t j what) fails = fails
    none e (place.Register chip register) fails = fails
    none e (place.Memory chip mem) fails = fails
    none e (place.Input n) fails = fails
    none e (place.Element n) fails = fails
    none e (place.Output k) fails = fails
    none e (place.EndRegister k chip register) fails = fails
    none e (place.EndMemory k chip mem) fails = fails
    none e (place.EndRead k chip mem port) fails = fails
