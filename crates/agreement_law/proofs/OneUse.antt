-- In a slot in which the actions of a frame use nothing twice, each wire carries at most one value.
use Rattle.std.proofs.Common.{◌≡◌, ℕ, zero, suc, ◌+◌, ◌<◌, ◌≤◌, arith, Bool, true, false, cond, List, [], ◌∷◌, refl, ap, ◌∙◌}
use Rattle.std.specs.Prelude.{Some, slice_get, count_by}
use Rattle.std.proofs.lemmas.List.Sums.{sum_by-cons}
use Rattle.id_arena.specs.declared.wire.Wire.{Wire}
use Rattle.emu_machine.specs.State.{Timed, timed_actions, frame_slots}
use Rattle.emu_machine.specs.Acceptance.{Case, uses_thing}
use Rattle.emu_machine.specs.Headline.{is_carried}
use Rattle.facts.proofs.Counting.{counted_found}
use Rattle.facts.proofs.Tests.{left, right}
use Rattle.marks_law.specs.Slots.{FrameFits}
use Rattle.marks_law.proofs.FrameActions.{none_uses_again}
use Rattle.marks_law.proofs.Flights.{wire_thing, sender_uses}

-- where no two elements pass, at most one does
module _ {X : Type 0} (p : X → Bool) where
  abbrev IsAlone : List X → Type 0
  IsAlone xs = (i j : ℕ) (x y : X) → i < j → slice_get xs i ≡ Some x → slice_get xs j ≡ Some y → p x ≡ true → p y ≡ true → ⊥

  at_most_one : (xs : List X) → IsAlone xs → count_by p xs ≤ 1
  at_most_one [] alone = omega arith
  at_most_one (y ∷ ys) alone =
      go (p y) refl (at_most_one ys (λ i j x z less. let more : suc i < suc j = omega arith in alone (suc i) (suc j) x z more))
    where
      counts : count_by p (y ∷ ys) ≡ cond {A = ℕ} (p y) 1 0 + count_by p ys
      counts = sum_by-cons (λ y. cond {A = ℕ} (p y) 1 0) y ys

      none : (n : ℕ) → count_by p ys ≡ n → p y ≡ true → count_by p ys ≡ 0
      none zero e here = e
      none (suc n) e here =
          let some : 0 < count_by p ys = omega arith in
          let f = counted_found p ys some in
          let first : 0 < suc f.0 = omega arith in
          absurd (alone 0 (suc f.0) y f.1 first refl f.2 here f.3)

      go : (b : Bool) → p y ≡ b → count_by p ys ≤ 1 → count_by p (y ∷ ys) ≤ 1
      go true e rest =
          let zeros : count_by p ys ≡ 0 = none (count_by p ys) refl e in
          let plain : count_by p (y ∷ ys) ≡ cond {A = ℕ} true 1 0 + count_by p ys = counts ∙ ap (λ b. cond {A = ℕ} b 1 0 + count_by p ys) e in
          omega arith
      go false e rest =
          let plain : count_by p (y ∷ ys) ≡ cond {A = ℕ} false 1 0 + count_by p ys = counts ∙ ap (λ b. cond {A = ℕ} b 1 0 + count_by p ys) e in
          omega arith

-- a wire that carries the value of an action is used by it
carrier_uses : (wires : List Wire) (w t : ℕ) (a : Timed) → is_carried wires w t a ≡ true → uses_thing wires t (wire_thing w) a ≡ true
carrier_uses wires w t a h = sender_uses wires w t a (left _ _ h) (right _ _ h)

pub wire_once : (c : Case) (frame : ℕ) → FrameFits c frame → (slot wire : ℕ) → count_by (is_carried c.board.wires wire slot) (timed_actions (frame_slots c.results frame)) ≤ 1
wire_once c k fit t w =
    at_most_one (is_carried c.board.wires w t) (timed_actions (frame_slots c.results k))
    (λ i j a b less at_a at_b first second.
    none_uses_again c k fit t (wire_thing w) i j a b less at_a at_b (carrier_uses c.board.wires w t a first) (carrier_uses c.board.wires w t b second))
