-- That acceptance does not hang on which test of the influence is taken: all tests say the same.
use Rattle.std.proofs.Common.{ℕ, ◌≡◌, ◌↔◌, ◌&&◌, Bool, true, false, Option, Some, None, is_some, IsTrue, slice_get, [], refl, sym, subst}
use Rattle.std.specs.Option.{option_map_or}
use Rattle.design_core.specs.declared.node.NodeId.{NodeId}
use Rattle.design_core.specs.Influence.{Group, all_groups, IsReached}
use Rattle.emu_machine.specs.declared.place.Place.{Place}
use Rattle.emu_machine.specs.declared.place.Place.TheVariants.{Chips, Gate, Weight, Frame, Action, Again, Register, Memory, Input, Element, Output, EndRegister, EndMemory, EndRead}
use Rattle.emu_machine.specs.declared.schedule.Frame.{Frame as FrameOf}
use Rattle.emu_machine.specs.declared.rule.Rule.{Rule}
use Rattle.emu_machine.specs.declared.rule.Rule.TheVariants.{A1, A2, A3, A4, A5, A6, A7, A8, A9, A10, A11, A12}
use Rattle.emu_machine.specs.Acceptance.{Case, Influences, Holds, IsAccepted, IsFirstFailure, FailsA10, FailsA11, frame_differs, has_frame, sends_inside, fails_test}

-- functions that are the same at each place are the same
same_function : {A B : Type 0} (f g : A → B) → ((x : A) → f x ≡ g x) → f ≡ g
same_function f g same = λ i x. same x i

same_bool : (P : Type 0) (x y : Bool) → (x ≡ true) ↔ P → (y ≡ true) ↔ P → x ≡ y
same_bool P true true a b = refl
same_bool P false false a b = refl
same_bool P true false a b = sym (b.1 (a.0 refl))
same_bool P false true a b = a.1 (b.0 refl)

both : (x y : Bool) → IsTrue (x && y) → IsTrue x
both true y t = refl
both false y t = t

module _ (c : Case) (one other : ℕ → NodeId → Bool) (of-one : Influences c one) (of-other : Influences c other) (frames : Holds c one A4) where
  -- a frame that is there is that of a group
  group_there : (k : ℕ) → IsTrue (has_frame c k) → (g : Group) × (slice_get (all_groups c.design c.groups) k ≡ Some g)
  group_there k there = go (slice_get c.results.schedule.frames k) (slice_get (all_groups c.design c.groups) k) (frames (Frame k)) there
    where
      go : (f : Option FrameOf) (g : Option Group) → (IsTrue (frame_differs c f g) → ⊥) → IsTrue (is_some f) → (x : Group) × (g ≡ Some x)
      go None g fits t = absurd (let e : false ≡ true = t in cc)
      go (Some f) None fits t = absurd (fits refl)
      go (Some f) (Some x) fits t = (x, refl)

  -- the tests of a frame that is there are the same
  same_test : (k : ℕ) → IsTrue (has_frame c k) → other k ≡ one k
  same_test k there =
      let g : (g : Group) × (slice_get (all_groups c.design c.groups) k ≡ Some g) = group_there k there in
      same_function (other k) (one k) (λ a. same_bool (IsReached c.design g.0.nets a) (other k a) (one k a) (of-other k g.0 g.1 a) (of-one k g.0 g.1 a))

  moved_a11 : (at : Place) → FailsA11 c other at → FailsA11 c one at
  moved_a11 (EndRegister k chip register) fails = subst (λ (test : NodeId → Bool). FailsA11 c (λ j. test) (EndRegister k chip register)) (same_test k (both _ _ fails)) fails
  moved_a11 (EndMemory k chip mem) fails = subst (λ (test : NodeId → Bool). FailsA11 c (λ j. test) (EndMemory k chip mem)) (same_test k (both _ _ (both _ _ fails))) fails
  moved_a11 (EndRead k chip mem port) fails = subst (λ (test : NodeId → Bool). FailsA11 c (λ j. test) (EndRead k chip mem port)) (same_test k (both _ _ fails)) fails
  moved_a11 (Chips m) fails = fails
  moved_a11 (Gate a b) fails = fails
  moved_a11 (Weight a b) fails = fails
  moved_a11 (Frame k) fails = fails
  moved_a11 (Action k t j) fails = fails
  moved_a11 (Again k t j what) fails = fails
  moved_a11 (Register a b) fails = fails
  moved_a11 (Memory a b) fails = fails
  moved_a11 (Input n) fails = fails
  moved_a11 (Element e) fails = fails
  moved_a11 (Output k) fails = fails

  -- an action stands in a frame that is there
  frame_there : (k t j : ℕ) → FailsA10 c other (Action k t j) → IsTrue (has_frame c k)
  frame_there k t j fails = go (slice_get c.results.schedule.frames k) fails
    where
      go : (f : Option FrameOf) → fails_test (sends_inside c (other k)) (slice_get (option_map_or (λ slot. slot.actions) (slice_get (option_map_or (λ frame. frame.slots) f []) t) []) j) → IsTrue (is_some f)
      go None never = absurd never
      go (Some f) here = refl

  moved_a10 : (at : Place) → FailsA10 c other at → FailsA10 c one at
  moved_a10 (Action k t j) fails = subst (λ (test : NodeId → Bool). FailsA10 c (λ i. test) (Action k t j)) (same_test k (frame_there k t j fails)) fails
  moved_a10 (EndRegister k chip register) fails = fails
  moved_a10 (EndMemory k chip mem) fails = fails
  moved_a10 (EndRead k chip mem port) fails = fails
  moved_a10 (Chips m) fails = fails
  moved_a10 (Gate a b) fails = fails
  moved_a10 (Weight a b) fails = fails
  moved_a10 (Frame k) fails = fails
  moved_a10 (Again k t j what) fails = fails
  moved_a10 (Register a b) fails = fails
  moved_a10 (Memory a b) fails = fails
  moved_a10 (Input n) fails = fails
  moved_a10 (Element e) fails = fails
  moved_a10 (Output k) fails = fails

  -- a rule that holds by one test holds by the other
  pub moved : (rule : Rule) → Holds c one rule → Holds c other rule
  moved A1 holds = holds
  moved A2 holds = holds
  moved A3 holds = holds
  moved A4 holds = holds
  moved A5 holds = holds
  moved A6 holds = holds
  moved A7 holds = holds
  moved A8 holds = holds
  moved A9 holds = holds
  moved A10 holds = λ at fails. holds at (moved_a10 at fails)
  moved A11 holds = λ at fails. holds at (moved_a11 at fails)
  moved A12 holds = holds

-- where there is a first failure, not all rules hold
pub not_accepted : (c : Case) (rule : Rule) (at : Place) → IsFirstFailure c rule at → IsAccepted c → ⊥
not_accepted c rule at first accepted =
    moved c accepted.inside first.inside accepted.influences first.influences (accepted.rules A4) rule (accepted.rules rule) at first.here
