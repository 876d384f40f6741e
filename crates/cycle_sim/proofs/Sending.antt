-- What actions put on wires.
use Rattle.std.proofs.Common.{◌≡◌, ◌+◌, ℕ, Bool, false, List, [], ◌∷◌, drop, get_or, refl, sym, ap, subst, ◌∙◌}
use Rattle.std.specs.Prelude.{◌&&◌, Some, slice_get, unwrap_or}
use Rattle.std.specs.List.{list_all}
use Rattle.id_arena.specs.declared.wire.Wire.{Wire}
use Rattle.emu_machine.specs.Results.{Results}
use Rattle.emu_machine.specs.declared.schedule.Action.{Action}
use Rattle.emu_machine.specs.State.{action_carried, first_given}
use Rattle.cycle_sim.specs.Tables.{state_of}
use Rattle.cycle_sim.specs.Takes.{HasSentOne, HasSent, leaves_all}
use Rattle.cycle_sim.proofs.Taking.{first_of_two, not_both, split_at}

module _ (r : Results) (wires : List Wire) (shown : List (List Bool)) where
  pub nothing_yet : (carried : List Bool) → HasSent r wires shown [] carried carried
  nothing_yet carried t all w = refl

  pub one_sent : (actions : List Action) (k : ℕ) (left : ℕ) → left ≡ k + 1
      → (action : Action) → slice_get actions k ≡ Some action
      → (before carried after : List Bool) → HasSent r wires shown (drop left actions) before carried → HasSentOne r wires shown action carried after
      → HasSent r wires shown (drop k actions) before after
  one_sent actions k left next action at before carried after rest one =
      subst (λ (some : List Action). HasSent r wires shown some before after) (sym (split_at actions k left next action at)) step
    where
      step : HasSent r wires shown (action ∷ drop left actions) before after
      step t all w =
          one t (λ e. all (ap (λ b. b && list_all leaves_all (drop left actions)) e)) w
          ∙ ap (unwrap_or (action_carried r.net wires (state_of t) action w)) (rest t (λ e. all (not_both (leaves_all action) (list_all leaves_all (drop left actions)) e)) w)
          ∙ first_of_two (action_carried r.net wires (state_of t) action w)
          (first_given (λ a. action_carried r.net wires (state_of t) a w) (drop left actions))
          (get_or before w false)

  pub all_sent : (actions : List Action) (left : ℕ) → left ≡ 0 → (before after : List Bool)
      → HasSent r wires shown (drop left actions) before after → HasSent r wires shown actions before after
  all_sent actions left none before after h =
      subst (λ (k : ℕ). HasSent r wires shown (drop k actions) before after) none h
