-- A5, A8 and A10: the places of actions.
use Rattle.std.proofs.Common.{◌≡◌, ◌<◌, ◌≤◌, ℕ, true, false, List, [], ◌∷◌, length, Option, None, Some, refl, sym, subst, ap, ◌∙◌, arith}
use Rattle.std.specs.Prelude.{slice_get}
use Rattle.std.specs.Option.{option_map_or}
use Rattle.std.proofs.lemmas.Option.{slice_get_past}
use Rattle.facts.proofs.Tests.{no}
use Rattle.emu_machine.specs.declared.place.Place.{Place}
use Rattle.emu_machine.specs.declared.place.Place.TheVariants as place
use Rattle.emu_machine.specs.declared.schedule.Action.{Action}
use Rattle.emu_machine.specs.declared.schedule.Frame.{Frame}
use Rattle.emu_machine.specs.declared.schedule.Slot.{Slot}
use Rattle.emu_machine.specs.State.{frame_slots}
use Rattle.emu_machine.specs.Acceptance.{Case, action_at, fails_test, place_key, slot_actions}
use Rattle.shape_check.specs.declared.actions.Test.{Test}
use Rattle.shape_check.specs.declared.actions.Test.TheVariants.{IsThere, KeepsSubject, SendsInside}
use Rattle.shape_check.specs.Actions.{FailsTest, passes}
use Rattle.use_check.specs.Least.{Begins, IsLeastUnder}
use Rattle.use_check.proofs.Walk.{Just, Longer, here}

-- a place at which an action does not pass is that of an action
pub at_action : (c : Case) (test : Test) (at : Place) → FailsTest c test at → (k t j : ℕ) × (at ≡ place.Action k t j) × fails_test (passes c test k t) (action_at c k t j)
at_action c IsThere (place.Action k t j) f = (k, t, j, refl, f)
at_action c KeepsSubject (place.Action k t j) f = (k, t, j, refl, f)
at_action c (SendsInside i) (place.Action k t j) f = (k, t, j, refl, f)
at_action c IsThere (place.Frame k) f = absurd f
at_action c IsThere (place.Chips m) f = absurd f
at_action c IsThere (place.Gate a b) f = absurd f
at_action c IsThere (place.Weight a b) f = absurd f
at_action c IsThere (place.Again a b d e) f = absurd f
at_action c IsThere (place.Register a b) f = absurd f
at_action c IsThere (place.Memory a b) f = absurd f
at_action c IsThere (place.Input a) f = absurd f
at_action c IsThere (place.Element a) f = absurd f
at_action c IsThere (place.Output a) f = absurd f
at_action c IsThere (place.EndRegister a b d) f = absurd f
at_action c IsThere (place.EndMemory a b d) f = absurd f
at_action c IsThere (place.EndRead a b d e) f = absurd f
at_action c KeepsSubject (place.Frame k) f = absurd f
at_action c KeepsSubject (place.Chips m) f = absurd f
at_action c KeepsSubject (place.Gate a b) f = absurd f
at_action c KeepsSubject (place.Weight a b) f = absurd f
at_action c KeepsSubject (place.Again a b d e) f = absurd f
at_action c KeepsSubject (place.Register a b) f = absurd f
at_action c KeepsSubject (place.Memory a b) f = absurd f
at_action c KeepsSubject (place.Input a) f = absurd f
at_action c KeepsSubject (place.Element a) f = absurd f
at_action c KeepsSubject (place.Output a) f = absurd f
at_action c KeepsSubject (place.EndRegister a b d) f = absurd f
at_action c KeepsSubject (place.EndMemory a b d) f = absurd f
at_action c KeepsSubject (place.EndRead a b d e) f = absurd f
at_action c (SendsInside i) (place.Frame k) f = absurd f
at_action c (SendsInside i) (place.Chips m) f = absurd f
at_action c (SendsInside i) (place.Gate a b) f = absurd f
at_action c (SendsInside i) (place.Weight a b) f = absurd f
at_action c (SendsInside i) (place.Again a b d e) f = absurd f
at_action c (SendsInside i) (place.Register a b) f = absurd f
at_action c (SendsInside i) (place.Memory a b) f = absurd f
at_action c (SendsInside i) (place.Input a) f = absurd f
at_action c (SendsInside i) (place.Element a) f = absurd f
at_action c (SendsInside i) (place.Output a) f = absurd f
at_action c (SendsInside i) (place.EndRegister a b d) f = absurd f
at_action c (SendsInside i) (place.EndMemory a b d) f = absurd f
at_action c (SendsInside i) (place.EndRead a b d e) f = absurd f

action_fails : (c : Case) (test : Test) (k t j : ℕ) → fails_test (passes c test k t) (action_at c k t j) → FailsTest c test (place.Action k t j)
action_fails c IsThere k t j f = f
action_fails c KeepsSubject k t j f = f
action_fails c (SendsInside i) k t j f = f

module _ (c : Case) (test : Test) where
  pub just_three : Just (FailsTest c test) 3
  just_three at f = let a = at_action c test at f in ap (λ (x : Place). length (place_key x)) a.3

  pub longer : (n : ℕ) → n < 3 → Longer (FailsTest c test) n
  longer n low at f = let three : length (place_key at) ≡ 3 = just_three at f in omega (arith, three, low)

  -- what the action at a place under these numbers says
  under_three : (k t j : ℕ) (at : Place) → Begins (k ∷ t ∷ j ∷ []) (place_key at) → FailsTest c test at → fails_test (passes c test k t) (action_at c k t j)
  under_three k t j at b f =
      let a : (k t j : ℕ) × (at ≡ place.Action k t j) × fails_test (passes c test k t) (action_at c k t j) = at_action c test at f in
      go a.0 a.1 a.2 (subst (λ (x : Place). Begins (k ∷ t ∷ j ∷ []) (place_key x)) a.3 b) a.4
    where
      go : (l u i : ℕ) → Begins (k ∷ t ∷ j ∷ []) (l ∷ u ∷ i ∷ []) → fails_test (passes c test l u) (action_at c l u i) → fails_test (passes c test k t) (action_at c k t j)
      go l u i e g =
          subst (λ (x : ℕ). fails_test (passes c test x t) (action_at c x t j)) (sym e.0)
          (subst (λ (x : ℕ). fails_test (passes c test l x) (action_at c l x j)) (sym e.1.0)
          (subst (λ (x : ℕ). fails_test (passes c test l u) (action_at c l u x)) (sym e.1.1.0) g))

  pub passed : (k t j : ℕ) (x : Action) → slice_get (slot_actions c k t) j ≡ Some x → passes c test k t x ≡ true → IsLeastUnder (FailsTest c test) (k ∷ t ∷ j ∷ []) None
  passed k t j x is ok at b f =
      no (sym (subst (λ (o : Option Action). fails_test (passes c test k t) o) is (under_three k t j at b f)) ∙ ok)

  pub past_actions : (k t j : ℕ) → length (slot_actions c k t) ≤ j → IsLeastUnder (FailsTest c test) (k ∷ t ∷ j ∷ []) None
  past_actions k t j past at b f =
      subst (λ (o : Option Action). fails_test (passes c test k t) o) (slice_get_past (slot_actions c k t) j past) (under_three k t j at b f)

  pub failed : (k t j : ℕ) (x : Action) → slice_get (slot_actions c k t) j ≡ Some x → passes c test k t x ≡ false → IsLeastUnder (FailsTest c test) (k ∷ t ∷ j ∷ []) (Some (place.Action k t j))
  failed k t j x is bad =
      here (FailsTest c test) (k ∷ t ∷ j ∷ []) (place.Action k t j) just_three refl (refl, (refl, (refl, tt)))
      (action_fails c test k t j (subst (λ (o : Option Action). fails_test (passes c test k t) o) (sym is) bad))

  -- no action stands behind the last slot, or the last frame
  pub past_slots : (k t : ℕ) → length (frame_slots c.results k) ≤ t → IsLeastUnder (FailsTest c test) (k ∷ t ∷ []) None
  past_slots k t past at b f =
      let a : (k t j : ℕ) × (at ≡ place.Action k t j) × fails_test (passes c test k t) (action_at c k t j) = at_action c test at f in
      go a.0 a.1 a.2 (subst (λ (x : Place). Begins (k ∷ t ∷ []) (place_key x)) a.3 b) a.4
    where
      none : slot_actions c k t ≡ []
      none = ap (λ (o : Option Slot). option_map_or (λ (slot : Slot). slot.actions) o []) (slice_get_past (frame_slots c.results k) t past)

      go : (l u i : ℕ) → Begins (k ∷ t ∷ []) (l ∷ u ∷ i ∷ []) → fails_test (passes c test l u) (action_at c l u i) → ⊥
      go l u i e g =
          subst (λ (xs : List Action). fails_test (passes c test k t) (slice_get xs i)) none
          (subst (λ (x : ℕ). fails_test (passes c test x t) (action_at c x t i)) (sym e.0)
          (subst (λ (x : ℕ). fails_test (passes c test l x) (action_at c l x i)) (sym e.1.0) g))

  pub past_frames : (k : ℕ) → length c.results.schedule.frames ≤ k → IsLeastUnder (FailsTest c test) (k ∷ []) None
  past_frames k past at b f =
      let a : (k t j : ℕ) × (at ≡ place.Action k t j) × fails_test (passes c test k t) (action_at c k t j) = at_action c test at f in
      let first : Begins (k ∷ []) (a.0 ∷ a.1 ∷ a.2 ∷ []) = subst (λ (x : Place). Begins (k ∷ []) (place_key x)) a.3 b in
      past_slots k a.1 none at (subst (λ (x : Place). Begins (k ∷ a.1 ∷ []) (place_key x)) (sym a.3) (first.0, (refl, tt))) f
    where
      none : {t : ℕ} → length (frame_slots c.results k) ≤ t
      none {t} = subst (λ (o : Option Frame). length (option_map_or (λ (frame : Frame). frame.slots) o []) ≤ t) (sym (slice_get_past c.results.schedule.frames k past)) (omega arith)
