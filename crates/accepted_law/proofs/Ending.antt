-- What lasts one slot ends in the slot in which it stands, and what holds from a slot on holds at the end.
use Rattle.std.proofs.Common.{◌≡◌, ℕ, zero, suc, ◌+◌, ◌<◌, arith, Bool, true, false, cond, List, [], ◌∷◌, length, refl, ap, ◌∙◌}
use Rattle.std.specs.Prelude.{◌==◌, nat_le, Option, Some, None, slice_get, option_map}
use Rattle.std.specs.List.{filter}
use Rattle.std.specs.Option.{option_map_or}
use Rattle.std.proofs.lemmas.Bool.{and_from}
use Rattle.std.proofs.lemmas.Bool.Decides.{nat_tests}
use Rattle.std.proofs.lemmas.Option.{none-some, same_Some, slice_get_within, slice_get-map}
use Rattle.id_arena.specs.declared.wire.Wire.{Wire}
use Rattle.emu_machine.specs.declared.schedule.Action.{Action}
use Rattle.emu_machine.specs.declared.schedule.Slot.{Slot}
use Rattle.emu_machine.specs.State.{actions_of, Timed, timed, timed_actions, slots_taken, is_last, ending}
use Rattle.facts.proofs.Tests.{no}
use Rattle.facts.proofs.Lists.{Has}
use Rattle.marks_law.proofs.FrameActions.{slot_in_frame}

-- ## Lists

module _ {X : Type 0} where
  kept_first : (y x : X) (ys : List X) (b : Bool) → b ≡ true → Some y ≡ Some x → Has (cond b (y ∷ ys) ys) x
  kept_first y x ys true e at = record { place = 0; at = at }
  kept_first y x ys false e at = no e

  kept_later : (y x : X) (ys : List X) (b : Bool) → Has ys x → Has (cond b (y ∷ ys) ys) x
  kept_later y x ys true h = record { place = suc h.place; at = h.at }
  kept_later y x ys false h = h

  -- what passes a test is among those that pass
  filtered : (p : X → Bool) (xs : List X) (k : ℕ) (x : X) → slice_get xs k ≡ Some x → p x ≡ true → Has (filter p xs) x
  filtered p [] k x at e = absurd (none-some x at)
  filtered p (y ∷ ys) zero x at e = kept_first y x (filter p ys) (p y) (ap p (same_Some y x at) ∙ e) at
  filtered p (y ∷ ys) (suc k) x at e = kept_later y x (filter p ys) (p y) (filtered p ys k x at e)

-- ## Slots

-- what holds in a slot, and in each next one after those in which it holds, holds from then on
pub from_then_on : (P : ℕ → Type 0) (t : ℕ) → P t → ((u : ℕ) → P u → P (suc u)) → (u : ℕ) → t < suc u → P u
from_then_on P zero start next zero less = start
from_then_on P zero start next (suc u) less =
    let low : 0 < suc u = omega arith in
    next u (from_then_on P zero start next u low)
from_then_on P (suc t) start next zero less = absurd (omega arith)
from_then_on P (suc t) start next (suc u) less =
    let low : t < suc u = omega arith in
    from_then_on (λ (n : ℕ). P (suc n)) t start (λ n. next (suc n)) u low

-- a slot with an action is one of the frame
pub in_slots : (slots : List Slot) (t j : ℕ) (a : Action) → slice_get (actions_of slots t) j ≡ Some a → t < length slots
in_slots slots t j a at = go (slice_get slots t) refl at
  where
    go : (o : Option Slot) → slice_get slots t ≡ o → slice_get (option_map_or (λ (slot : Slot). slot.actions) o []) j ≡ Some a → t < length slots
    go None e at = absurd (none-some a at)
    go (Some slot) e at = slice_get_within slots t slot e

-- the slot in which an action of one slot stands is its last
pub is_its_last : (wires : List Wire) (t : ℕ) (a : Action) → slots_taken wires a ≡ 1 → is_last wires t (timed t a) ≡ true
is_its_last wires t a e =
    let here : nat_le t t ≡ true = grind (arith, nat_tests) in
    let next : (t + 1 == t + 1) ≡ true = grind (arith, nat_tests) in
    and_from (nat_le t t) (t + 1 == t + slots_taken wires a) here (ap (λ (n : ℕ). t + 1 == t + n) e ∙ next)

-- there it ends
pub ends_here : (wires : List Wire) (slots : List Slot) (t j : ℕ) (a : Action) → slice_get (actions_of slots t) j ≡ Some a → slots_taken wires a ≡ 1 → Has (ending wires slots t) a
ends_here wires slots t j a at e =
    let there : Has (timed_actions slots) (timed t a) = slot_in_frame slots t j a at in
    let kept : Has (filter (is_last wires t) (timed_actions slots)) (timed t a) =
    filtered (is_last wires t) (timed_actions slots) there.place (timed t a) there.at (is_its_last wires t a e) in
    record {
      place = kept.place;
      at = slice_get-map (λ (x : Timed). x.action) (filter (is_last wires t) (timed_actions slots)) kept.place ∙ ap (option_map (λ (x : Timed). x.action)) kept.at;
    }
