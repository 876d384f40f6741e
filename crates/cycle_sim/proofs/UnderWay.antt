-- Slots of a frame, in which only the gates that wait have a turn, and only where an action reads a net.
use Rattle.std.proofs.Common.{◌≡◌, ◌<◌, ℕ, Bool, List, [], get_or, length, sym, subst}
use Rattle.std.specs.List.{list_all}
use Rattle.id_arena.specs.declared.wire.Wire.{Wire}
use Rattle.chip_pass.specs.Chips.{ChipState}
use Rattle.emu_machine.specs.declared.schedule.Action.{Action}
use Rattle.emu_machine.specs.declared.schedule.Slot.{Slot}
use Rattle.emu_machine.specs.Results.{Results}
use Rattle.emu_machine.specs.Netlist.{chip_at}
use Rattle.emu_machine.specs.State.{net_value, action_value, action_word, action_carried, first_given, actions_of, ending, slot_step}
use Rattle.cycle_sim.specs.Passes.{ShowHeld, CatchUp, rows_of}
use Rattle.cycle_sim.specs.Tables.{Tables, Running, IsFresh, state, tables}
use Rattle.cycle_sim.specs.Takes.{HasGiven, AreServed, HasTaken, AreStored, HasStored, IsCarrying, HasSent, leaves_all, takes_no_net}
use Rattle.cycle_sim.specs.Values.{cell}
use Rattle.cycle_sim.proofs.Chips.{net_is}
use Rattle.cycle_sim.proofs.Levels.{chip_in_rows, net_in_rows}
use Rattle.cycle_sim.proofs.CatchingUp.{level_again}
use Rattle.cycle_sim.proofs.SlotSteps.{stepped}
use Rattle.cycle_sim.proofs.Taking.{started}

module _ (r : Results) (wires : List Wire) (words : List (List (List ℕ))) (outside carried : List Bool) (shown before : List (List Bool)) (starts ends : List Action)
    (takes : AreServed r before shown (list_all (takes_no_net wires) ends)) (leaves : AreServed r before shown (list_all leaves_all starts)) where
  -- what registers take
  pub taken_now : (after : List (List Bool)) → HasTaken r wires shown words outside carried ends before after
      → HasGiven (λ c n. first_given (λ a. action_value r.net wires (started before words outside carried) a c n) ends) before after
  taken_now after taken = taken before takes

  pub slot_done : (slots : List Slot) (t : ℕ) → starts ≡ actions_of slots t → ends ≡ ending wires slots t
      → (after : List (List Bool)) → HasTaken r wires shown words outside carried ends before after
      → (stored : List (List (List ℕ))) → HasStored r shown starts words stored
      → (sent : List Bool) → HasSent r wires shown starts carried sent
      → started after stored outside sent ≡ slot_step r.net wires slots t (started before words outside carried)
  slot_done slots t start_is end_is after taken stored puts sent has =
      stepped r wires slots t outside before after words stored carried sent
      (subst (λ (some : List Action). HasGiven (λ c n. first_given (λ a. action_value r.net wires (started before words outside carried) a c n) some) before after) end_is (taken_now after taken))
      (subst (λ (some : List Action). AreStored (λ c m a. first_given (λ action. action_word r.net (started before words outside carried) action c m a) some) words stored) start_is
      (puts (tables before words outside carried) leaves))
      (subst (λ (some : List Action). IsCarrying (λ w. first_given (λ a. action_carried r.net wires (started before words outside carried) a w) some) carried sent) start_is
      (has (tables before words outside carried) leaves))

  -- nets that no gate drives show what is held, once what was taken is shown
  pub level_done : (after new : List (List Bool)) → ShowHeld r before shown → HasTaken r wires shown words outside carried ends before after
      → CatchUp r wires after ends shown new → ShowHeld r after new
  level_done after new level taken up =
      level_again r wires (started before words outside carried) ends before after shown new level (taken_now after taken) up

-- ## What a net shows

abbrev running : Results → List Wire → Tables → Running
running r wires t = record { results = r; wires = wires; tables = t }

module _ (r : Results) (wires : List Wire) (t : Tables) (passes : List (ChipState Bool)) (fresh : IsFresh r wires t passes) (m : Running) (is : running r wires t ≡ m) (c n : ℕ)
    (low : c < length m.results.net) (within : n < (chip_at m.results.net c).nets) where
  there : n < (chip_at r.net c).nets
  there = subst (λ (one : Running). n < (chip_at one.results.net c).nets) (sym is) within

  pub chip_shown : c < length (rows_of passes)
  chip_shown = chip_in_rows r passes fresh.under.passes_are c n there

  pub net_shown : n < length (get_or (rows_of passes) c [])
  net_shown = net_in_rows r passes fresh.under.passes_are c n there

  pub value_shown : cell (rows_of passes) c n ≡ net_value m.results.net (state m) c n
  value_shown =
      subst (λ (one : Running). c < length one.results.net → n < (chip_at one.results.net c).nets → cell (rows_of passes) c n ≡ net_value one.results.net (state one) c n) is
      (λ low within. net_is r t (rows_of passes) fresh.shows c n low within) low within
