-- Results of which A2, A5 and A7 hold can be run, and a machine can be loaded for them.
use Rattle.std.proofs.Common.{◌≡◌, ◌<◌, ℕ, Bool, true, false, refl, sym, subst, inl, inr}
use Rattle.std.specs.Prelude.{◌&&◌, nat_lt, Option, Some, None, slice_get, codes, length}
use Rattle.std.specs.Option.{option_map_or}
use Rattle.design_core.specs.declared.node.NodeId.{NodeId}
use Rattle.design_core.specs.Design.{IsDesign, net_count, port_bits, includes, is_net}
use Rattle.design_core.specs.Influence.{Group, all_groups, IsGroup}
use Rattle.emu_machine.specs.declared.place.Place.TheVariants as place
use Rattle.emu_machine.specs.declared.schedule.Action.{Action}
use Rattle.emu_machine.specs.declared.schedule.Action.TheVariants as action
use Rattle.emu_machine.specs.State.{frame_slots, actions_of}
use Rattle.emu_machine.specs.Origins.{register_fits}
use Rattle.emu_machine.specs.declared.rule.Rule.TheVariants.{A2, A5}
use Rattle.emu_machine.specs.Acceptance.{Case, Holds, case_action_fits, action_fits, fails_test, is_hold, is_in_group, register_of}
use Rattle.facts.proofs.Lists.{any_at}
use Rattle.facts.proofs.Places.{any_found, at_contains, at_last, contains_at}
use Rattle.facts.proofs.Tests.{no, must}
use Rattle.history_law.proofs.Naming.{input_bit_is_input}
use Rattle.cycle_sim.specs.Standing.{CanRun}
use Rattle.cycle_sim.specs.Loading.{mapped_memory_fits}
use Rattle.cycle_sim.specs.Judged.{JudgedCanRun, JudgedCanLoad}
use Rattle.cycle_sim.proofs.Counting.{is_less}

module _ (c : Case) (inside : ℕ → NodeId → Bool) (design : IsDesign c.design) (groups : (k : ℕ) (g : Group) → slice_get c.groups k ≡ Some g → IsGroup c.design g) where
  group_net : (g : Group) → IsGroup c.design g → (n : ℕ) → includes g.nets n ≡ true → n < net_count c.design
  group_net g group n h =
      let f = any_found (is_net n) g.nets h in
      let has = at_contains (port_bits c.design.inputs) f.1 (group f.1 (contains_at g.nets f.0 f.1 f.2)) in
      (input_bit_is_input c.design n design (any_at (is_net n) (port_bits c.design.inputs) has.0 f.1 has.1 f.3)).0

  group_at : (k : ℕ) (g : Group) → slice_get (all_groups c.design c.groups) k ≡ Some g → IsGroup c.design g
  group_at k g at =
      elim (at_last c.groups (let all : Group = record { name = codes "*"; nets = port_bits c.design.inputs } in all) k g at) [
        | inl h ↦ groups k g h
        | inr h ↦ subst (IsGroup c.design) h (λ n has. has)
      ]

  in_group : (k n : ℕ) (o : Option Group) → slice_get (all_groups c.design c.groups) k ≡ o → option_map_or (λ g. includes g.nets n) o false ≡ true → n < net_count c.design
  in_group k n None e h = no h
  in_group k n (Some g) e h = group_net g (group_at k g e) n h

  -- an `input` fits, whatever the test that tells its inputs
  input_fits : (is_hold is_input has_outside : Bool) → (is_hold && is_input) ≡ true → (is_input ≡ true → has_outside ≡ true) → (is_hold && has_outside) ≡ true
  input_fits true is_input has_outside h more = more h
  input_fits false is_input has_outside h more = no h

  -- where the test of a group is that of a net with an outside value, an action fits as before
  stands : (k t : ℕ) (a : Action) → case_action_fits c k t a ≡ true
      → action_fits c.results.net c.board.wires (λ n. nat_lt n (net_count c.design)) (length (frame_slots c.results k)) t a ≡ true
  stands k t (action.Input on register net) fits =
      input_fits (is_hold (register_of c.results.net on.place register.place)) (is_in_group c k net.place) (nat_lt net.place (net_count c.design)) fits
      (λ h. is_less net.place (net_count c.design) (in_group k net.place (slice_get (all_groups c.design c.groups) k) refl h))
  stands k t (action.Load on register) fits = fits
  stands k t (action.Send wire net register) fits = fits
  stands k t (action.Write on mem port) fits = fits
  stands k t (action.Read on mem port) fits = fits

  can_run : Holds c inside A2 → Holds c inside A5 → CanRun c.results c.board.wires (net_count c.design)
  can_run no_cycle fitting =
      record {
        no_cycle = λ k j cycle. no_cycle (place.Gate (record { place = k }) j) cycle;
        actions = λ k t a has.
            let at = at_contains (actions_of (frame_slots c.results k) t) a has in
            stands k t a
            (must (case_action_fits c k t a) (λ wrong.
            fitting (place.Action k t at.0) (subst (fails_test (case_action_fits c k t)) (sym at.1) wrong)));
      }

pub judged_can_run : JudgedCanRun
judged_can_run c inside design groups no_cycle fitting = can_run c inside design groups no_cycle fitting

pub judged_can_load : JudgedCanLoad
judged_can_load c inside fitting =
    record {
      registers = λ k j register at.
          must (register_fits c.design c.results k register) (λ wrong.
          fitting (place.Register (record { place = k }) (record { place = j })) (subst (fails_test (register_fits c.design c.results k)) (sym at) wrong));
      memories = λ k m memory at.
          must (mapped_memory_fits c.design c.results k m memory) (λ wrong.
          fitting (place.Memory (record { place = k }) (record { place = m })) (subst (fails_test (mapped_memory_fits c.design c.results k m)) (sym at) wrong));
    }
