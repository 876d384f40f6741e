-- A4: a frame and its group, and what holds where the rule does.
use Rattle.std.proofs.Common.{◌≡◌, ◌<◌, ◌≤◌, ◌⊎◌, ℕ, Bool, true, false, not, List, [], ◌∷◌, length, Option, None, Some, inl, inr, refl, sym, subst, ap, ◌∙◌, arith, length-append}
use Rattle.std.specs.Prelude.{◌&&◌, bytes_eq, nat_lt, nat_le, slice_get, option_map, codes}
use Rattle.std.specs.Option.{option_map_or}
use Rattle.std.proofs.lemmas.Bool.{cases_lt}
use Rattle.std.proofs.lemmas.Bool.Decides.{nat_tests}
use Rattle.std.proofs.lemmas.Option.{none-some, same_Some, slice_get_past}
use Rattle.facts.proofs.Tests.{must_not, no, right}
use Rattle.design_core.specs.Design.{port_bits}
use Rattle.design_core.proofs.Outwards.{found_at}
use Rattle.design_core.specs.Influence.{Group, all_groups}
use Rattle.emu_machine.specs.declared.place.Place.TheVariants as place
use Rattle.emu_machine.specs.declared.schedule.Frame.{Frame}
use Rattle.emu_machine.specs.Acceptance.{Case, FailsA4, frame_differs, frame_fits, place_key}
use Rattle.use_check.specs.Least.{IsLeastUnder, Never}
use Rattle.shape_check.specs.Actions.{AreFew}
use Rattle.shape_check.specs.ShapeCase.{Stands}
use Rattle.use_check.proofs.Walk.{Just, Longer, here}

-- what the test of a frame and a group's name says of the frame and the group
pub form_tells : (c : Case) (f : Option Frame) (g : Option Group) (frame : Frame) (name : List ℕ) (slots : ℕ) → f ≡ Some frame → option_map (λ group. group.name) g ≡ Some name → c.board.slots ≡ slots
    → (bytes_eq frame.group name && nat_lt 0 (length frame.slots) && nat_le (length frame.slots) slots) ≡ not (frame_differs c f g)
form_tells c f None frame name slots at named is = absurd (none-some name named)
form_tells c None (Some group) frame name slots at named is = absurd (none-some frame at)
form_tells c (Some other) (Some group) frame name slots at named is =
    rw (sym (same_Some other frame at), sym (same_Some group.name name named), sym is) (go (frame_fits c other group))
  where
    go : (b : Bool) → b ≡ not (not b)
    go true = refl
    go false = refl

pub just_one : (c : Case) → Just (FailsA4 c) 1
just_one c (place.Frame k) f = refl
just_one c (place.Chips m) f = absurd f
just_one c (place.Gate a b) f = absurd f
just_one c (place.Weight a b) f = absurd f
just_one c (place.Action a b d) f = absurd f
just_one c (place.Again a b d e) f = absurd f
just_one c (place.Register a b) f = absurd f
just_one c (place.Memory a b) f = absurd f
just_one c (place.Input a) f = absurd f
just_one c (place.Element a) f = absurd f
just_one c (place.Output a) f = absurd f
just_one c (place.EndRegister a b d) f = absurd f
just_one c (place.EndMemory a b d) f = absurd f
just_one c (place.EndRead a b d e) f = absurd f

pub some_long : (c : Case) → Longer (FailsA4 c) 0
some_long c at f = let one : length (place_key at) ≡ 1 = just_one c at f in omega (arith, one)

differs : (c : Case) (k : ℕ) → not (frame_differs c (slice_get c.results.schedule.frames k) (slice_get (all_groups c.design c.groups) k)) ≡ false → frame_differs c (slice_get c.results.schedule.frames k) (slice_get (all_groups c.design c.groups) k) ≡ true
differs c k e = go (frame_differs c (slice_get c.results.schedule.frames k) (slice_get (all_groups c.design c.groups) k)) e
  where
    go : (b : Bool) → not b ≡ false → b ≡ true
    go true e = refl
    go false e = no (sym e)

-- a frame that does not fit is the one place under its number
pub misfit : (c : Case) (k : ℕ) → frame_differs c (slice_get c.results.schedule.frames k) (slice_get (all_groups c.design c.groups) k) ≡ true → IsLeastUnder (FailsA4 c) (k ∷ []) (Some (place.Frame k))
misfit c k e = here (FailsA4 c) (k ∷ []) (place.Frame k) (just_one c) refl (refl, tt) e

pub misfit_not : (c : Case) (k : ℕ) → not (frame_differs c (slice_get c.results.schedule.frames k) (slice_get (all_groups c.design c.groups) k)) ≡ false → IsLeastUnder (FailsA4 c) (k ∷ []) (Some (place.Frame k))
misfit_not c k e = misfit c k (differs c k e)

-- where it fits there is none
pub fit : (c : Case) (k : ℕ) → frame_differs c (slice_get c.results.schedule.frames k) (slice_get (all_groups c.design c.groups) k) ≡ false → IsLeastUnder (FailsA4 c) (k ∷ []) None
fit c k e (place.Frame j) b f =
    no (sym e ∙ subst (λ (i : ℕ). frame_differs c (slice_get c.results.schedule.frames i) (slice_get (all_groups c.design c.groups) i) ≡ true) (sym b.0) f)
fit c k e other b f = f

pub fit_not : (c : Case) (k : ℕ) → not (frame_differs c (slice_get c.results.schedule.frames k) (slice_get (all_groups c.design c.groups) k)) ≡ true → IsLeastUnder (FailsA4 c) (k ∷ []) None
fit_not c k e = fit c k (go (frame_differs c (slice_get c.results.schedule.frames k) (slice_get (all_groups c.design c.groups) k)) e)
  where
    go : (b : Bool) → not b ≡ true → b ≡ false
    go true e = no e
    go false e = refl

-- behind the last group there is a frame, or nothing
pub one_more : (c : Case) (k : ℕ) → k ≡ length (all_groups c.design c.groups) → k < length c.results.schedule.frames → IsLeastUnder (FailsA4 c) (k ∷ []) (Some (place.Frame k))
one_more c k last low =
    misfit c k (go (slice_get c.results.schedule.frames k) (slice_get (all_groups c.design c.groups) k) (λ e. past e) (slice_get_past (all_groups c.design c.groups) k (omega (arith, last))))
  where
    there : (x : Frame) × (slice_get c.results.schedule.frames k ≡ Some x)
    there = found_at c.results.schedule.frames k low

    past : slice_get c.results.schedule.frames k ≡ None → ⊥
    past e = none-some there.0 (sym e ∙ there.1)

    go : (f : Option Frame) (g : Option Group) → (f ≡ None → ⊥) → g ≡ None → frame_differs c f g ≡ true
    go None None f g = absurd (f refl)
    go (Some x) None f g = refl
    go f (Some y) h g = absurd (none-some y (sym g))

pub no_more : (c : Case) (k : ℕ) → k ≡ length (all_groups c.design c.groups) → length c.results.schedule.frames ≤ k → (j : ℕ) → k ≤ j → IsLeastUnder (FailsA4 c) (j ∷ []) None
no_more c k last short j high =
    fit c j (ap (λ (f : Option Frame). frame_differs c f (slice_get (all_groups c.design c.groups) j)) (slice_get_past c.results.schedule.frames j (omega (arith, short)))
    ∙ ap (λ (g : Option Group). frame_differs c None g) (slice_get_past (all_groups c.design c.groups) j (omega (arith, last))))

module _ (c : Case) (s : Stands c) (holds : Never (FailsA4 c)) where
  slots_few : (k : ℕ) (f : Option Frame) (g : Option Group) → (frame_differs c f g ≡ true → ⊥) → length (option_map_or (λ frame. frame.slots) f []) ≤ 65535
  slots_few k None g fits = omega arith
  slots_few k (Some frame) None fits = absurd (fits refl)
  slots_few k (Some frame) (Some group) fits = go (must_not (frame_fits c frame group) fits)
    where
      go : frame_fits c frame group ≡ true → length frame.slots ≤ 65535
      go e =
          let low : nat_le (length frame.slots) c.board.slots ≡ true = right (bytes_eq frame.group group.name && nat_lt 0 (length frame.slots)) (nat_le (length frame.slots) c.board.slots) e in
          bounded (length frame.slots) c.board.slots low s.board.limits.few_slots
        where
          bounded : (a b : ℕ) → nat_le a b ≡ true → b ≤ 65535 → a ≤ 65535
          bounded a b h l = grind (arith, nat_tests)

  frames_few : (length (all_groups c.design c.groups) < length c.results.schedule.frames) ⊎ (length c.results.schedule.frames ≤ length (all_groups c.design c.groups)) → length c.results.schedule.frames ≤ 33
  frames_few (inl more) =
      let there : IsLeastUnder (FailsA4 c) (length (all_groups c.design c.groups) ∷ []) (Some (place.Frame (length (all_groups c.design c.groups)))) = one_more c (length (all_groups c.design c.groups)) refl more in
      absurd (holds (place.Frame (length (all_groups c.design c.groups))) there.1)
  frames_few (inr few) = omega (arith, few, length-append c.groups (record { name = codes "*"; nets = port_bits c.design.inputs } ∷ []), s.groups)

  -- where A4 holds, frames and slots are few
  pub few : AreFew c
  few = record {
    frames = frames_few (cases_lt (length (all_groups c.design c.groups)) (length c.results.schedule.frames));
    slots = λ k. slots_few k (slice_get c.results.schedule.frames k) (slice_get (all_groups c.design c.groups) k) (λ e. holds (place.Frame k) e);
  }
