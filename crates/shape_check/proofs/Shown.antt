-- A12: the places of outputs.
use Rattle.std.proofs.Common.{◌≡◌, ◌<◌, ◌≤◌, ◌⊎◌, ℕ, true, false, [], ◌∷◌, length, Option, None, Some, inl, inr, refl, sym, subst, ◌∙◌, arith}
use Rattle.std.specs.Prelude.{slice_get}
use Rattle.std.proofs.lemmas.Bool.{cases_lt}
use Rattle.std.proofs.lemmas.Option.{slice_get_past}
use Rattle.facts.proofs.Tests.{no}
use Rattle.design_core.specs.Design.{port_bits}
use Rattle.emu_machine.specs.declared.map.Spot.{Spot}
use Rattle.emu_machine.specs.declared.place.Place.{Place}
use Rattle.emu_machine.specs.declared.place.Place.TheVariants as place
use Rattle.emu_machine.specs.Acceptance.{Case, FailsA12, FailsA9, fails_test, place_key, shows_before}
use Rattle.use_check.specs.Least.{Begins, IsLeast, IsLeastUnder, Never}
use Rattle.use_check.proofs.Walk.{Just, Longer, here}
use Rattle.shape_check.proofs.Lost.{one_over}

-- where A9 holds there are no more outputs than output bits
pub no_more : (c : Case) → Never (FailsA9 c) → length c.results.map.outputs ≤ length (port_bits c.design.outputs)
no_more c mapped = go (cases_lt (length (port_bits c.design.outputs)) (length c.results.map.outputs))
  where
    go : (length (port_bits c.design.outputs) < length c.results.map.outputs) ⊎ (length c.results.map.outputs ≤ length (port_bits c.design.outputs)) → length c.results.map.outputs ≤ length (port_bits c.design.outputs)
    go (inl more) = absurd (mapped (place.Output (length (port_bits c.design.outputs))) (one_over c (length (port_bits c.design.outputs)) (omega arith) more).1)
    go (inr few) = few

module _ (c : Case) where
  just_two : Just (FailsA12 c) 2
  just_two (place.Output k) f = refl
  just_two (place.Chips m) f = absurd f
  just_two (place.Gate a b) f = absurd f
  just_two (place.Weight a b) f = absurd f
  just_two (place.Frame a) f = absurd f
  just_two (place.Action a b d) f = absurd f
  just_two (place.Again a b d e) f = absurd f
  just_two (place.Register a b) f = absurd f
  just_two (place.Memory a b) f = absurd f
  just_two (place.Input a) f = absurd f
  just_two (place.Element a) f = absurd f
  just_two (place.EndRegister a b d) f = absurd f
  just_two (place.EndMemory a b d) f = absurd f
  just_two (place.EndRead a b d e) f = absurd f

  pub one_long : Longer (FailsA12 c) 1
  one_long at f = let two : length (place_key at) ≡ 2 = just_two at f in omega (arith, two)

  -- all places of the rule are of outputs
  of_outputs : (at : Place) → FailsA12 c at → Begins (2 ∷ []) (place_key at)
  of_outputs (place.Output k) f = (refl, tt)
  of_outputs other f = absurd f

  pub of_all : (o : Option Place) → IsLeastUnder (FailsA12 c) (2 ∷ []) o → IsLeast (FailsA12 c) o
  of_all None least = λ at f. least at (of_outputs at f) f
  of_all (Some at) least = (least.1, λ other p f. least.2 other (of_outputs other f) p f)

  under : (k : ℕ) (at : Place) → Begins (2 ∷ k ∷ []) (place_key at) → FailsA12 c at → fails_test (shows_before c) (slice_get c.results.map.outputs k)
  under k (place.Output j) b f = subst (λ (i : ℕ). fails_test (shows_before c) (slice_get c.results.map.outputs i)) (sym b.1.0) f
  under k other b f = absurd f

  pub output_shows : (k : ℕ) (spot : Spot) → slice_get c.results.map.outputs k ≡ Some spot → shows_before c spot ≡ true → IsLeastUnder (FailsA12 c) (2 ∷ k ∷ []) None
  output_shows k spot at ok place b f = no (sym (subst (λ (o : Option Spot). fails_test (shows_before c) o) at (under k place b f)) ∙ ok)

  pub past_outputs : (k : ℕ) → length c.results.map.outputs ≤ k → IsLeastUnder (FailsA12 c) (2 ∷ k ∷ []) None
  past_outputs k past place b f = subst (λ (o : Option Spot). fails_test (shows_before c) o) (slice_get_past c.results.map.outputs k past) (under k place b f)

  pub output_hides : (k : ℕ) (spot : Spot) → slice_get c.results.map.outputs k ≡ Some spot → shows_before c spot ≡ false → IsLeastUnder (FailsA12 c) (2 ∷ k ∷ []) (Some (place.Output k))
  output_hides k spot at bad =
      here (FailsA12 c) (2 ∷ k ∷ []) (place.Output k) just_two refl (refl, (refl, tt))
      (subst (λ (o : Option Spot). fails_test (shows_before c) o) (sym at) bad)
