-- What actions name, where they fit.
use Rattle.std.proofs.Common.{◌≡◌, ◌<◌, ℕ, Bool, true, List, [], get_or, length, refl, sym, subst, arith}
use Rattle.std.specs.Prelude.{nat_lt, is_some, Option, Some, None, slice_get, All}
use Rattle.std.proofs.lemmas.List.Elements.{Contains-get_or}
use Rattle.id_arena.specs.declared.keys.ChipNetId.{ChipNetId}
use Rattle.id_arena.specs.declared.keys.RegId.{RegId}
use Rattle.id_arena.specs.declared.keys.WireId.{WireId}
use Rattle.id_arena.specs.declared.wire.Wire.{Wire}
use Rattle.emu_machine.specs.declared.netlist.EmuRegister.{EmuRegister}
use Rattle.emu_machine.specs.Results.{Results}
use Rattle.emu_machine.specs.declared.schedule.Action.{Action}
use Rattle.emu_machine.specs.declared.schedule.Action.TheVariants.{Input, Load, Send, Write, Read}
use Rattle.emu_machine.specs.declared.schedule.Slot.{Slot}
use Rattle.emu_machine.specs.Netlist.{chip_at}
use Rattle.emu_machine.specs.State.{read_port, write_port, frame_slots, actions_of, ending}
use Rattle.emu_machine.specs.Acceptance.{register_of, is_hold, is_loaded, send_fits, action_fits}
use Rattle.facts.proofs.Tests.{no, left, right, below}
use Rattle.cycle_sim.specs.Standing.{IsRunnable, IsRegister, SlotsStand, CanTake, CanSend, CanStore}
use Rattle.cycle_sim.specs.Tables.{HaveSizes}
use Rattle.slot_endings.proofs.Timed.{all_ending}
use Rattle.cycle_sim.proofs.Chips.{chip_here, net_chip_low}

some_there : {X : Type 0} (o : Option X) → is_some o ≡ true → (x : X) × (o ≡ Some x)
some_there None h = no h
some_there (Some x) h = (x, refl)

module _ (r : Results) (wires : List Wire) (nets : ℕ) where
  hold_there : (c k : ℕ) (o : Option EmuRegister) → register_of r.net c k ≡ o → is_hold o ≡ true → IsRegister r c k
  hold_there c k None e h = no h
  hold_there c k (Some register) e h = (register, e)

  loaded_there : (c k : ℕ) (o : Option EmuRegister) → register_of r.net c k ≡ o → is_loaded o ≡ true → IsRegister r c k
  loaded_there c k None e h = no h
  loaded_there c k (Some register) e h = (register, e)

  sent_there : (slots t : ℕ) (wire : WireId) (net : ChipNetId) (register : RegId) (o : Option Wire) → slice_get wires wire.place ≡ o
      → send_fits r.net slots t net register.place o ≡ true → CanTake r wires nets (Send wire net register)
  sent_there slots t wire net register None e h = no h
  sent_there slots t wire net register (Some ends) e h =
      let named = left _ _ h in (
        ends,
        e,
        hold_there ends.to.place register.place (register_of r.net ends.to.place register.place) refl (right _ _ named),
        below net.place (chip_at r.net ends.from.place).nets (left _ _ named),
      )

  -- an action that fits names what it takes
  pub can_take : (slots t : ℕ) (a : Action) → action_fits r.net wires (λ n. nat_lt n nets) slots t a ≡ true → CanTake r wires nets a
  can_take slots t (Input chip register net) fits = (
    hold_there chip.place register.place (register_of r.net chip.place register.place) refl (left _ _ fits),
    below net.place nets (right _ _ fits),
  )
  can_take slots t (Load chip register) fits =
      loaded_there chip.place register.place (register_of r.net chip.place register.place) refl fits
  can_take slots t (Send wire net register) fits =
      sent_there slots t wire net register (slice_get wires wire.place) refl fits
  can_take slots t (Write chip mem port) fits = tt
  can_take slots t (Read chip mem port) fits = some_there (read_port r.net chip.place mem.place port) fits

  -- and what it stores
  pub can_store : (slots t : ℕ) (a : Action) → action_fits r.net wires (λ n. nat_lt n nets) slots t a ≡ true → CanStore r a
  can_store slots t (Input chip register net) fits = tt
  can_store slots t (Load chip register) fits = tt
  can_store slots t (Send wire net register) fits = tt
  can_store slots t (Write chip mem port) fits = some_there (write_port r.net chip.place mem.place port) fits
  can_store slots t (Read chip mem port) fits = tt

  -- and what it sends
  pub can_send : (shown : List (List Bool)) → HaveSizes r shown → (a : Action) → CanTake r wires nets a → CanSend wires shown a
  can_send shown sizes (Input chip register net) can = tt
  can_send shown sizes (Load chip register) can = tt
  can_send shown sizes (Send wire net register) (ends, at, register_is, low) =
      let chip_low : ends.from.place < length r.net = net_chip_low r.net ends.from.place net.place low in
      let size : length (get_or shown ends.from.place []) ≡ (chip_at r.net ends.from.place).nets =
      sizes.sizes ends.from.place (chip_at r.net ends.from.place) (chip_here r.net ends.from.place chip_low) in (
        ends,
        at,
        omega (arith, sizes.count, chip_low),
        omega (arith, size, low),
      )
  can_send shown sizes (Write chip mem port) can = tt
  can_send shown sizes (Read chip mem port) can = tt

-- ## The actions that end in a slot

pub ending_taken : (r : Results) (wires : List Wire) (nets : ℕ) (slots : List Slot) (t : ℕ) → SlotsStand r wires nets slots → All (CanTake r wires nets) (ending wires slots t)
ending_taken r wires nets slots t stand =
    all_ending (CanTake r wires nets) wires slots t (λ u a has. can_take r wires nets (length slots) u a (stand u a has))

pub starting_taken : (r : Results) (wires : List Wire) (nets : ℕ) (slots : List Slot) (t : ℕ) → SlotsStand r wires nets slots → All (CanTake r wires nets) (actions_of slots t)
starting_taken r wires nets slots t stand j d low =
    can_take r wires nets (length slots) t (get_or (actions_of slots t) j d) (stand t (get_or (actions_of slots t) j d) (Contains-get_or (actions_of slots t) j d low))

pub starting_sent : (r : Results) (wires : List Wire) (nets : ℕ) (slots : List Slot) (t : ℕ) (shown : List (List Bool)) → SlotsStand r wires nets slots → HaveSizes r shown
    → All (CanSend wires shown) (actions_of slots t)
starting_sent r wires nets slots t shown stand sizes j d low =
    can_send r wires nets shown sizes (get_or (actions_of slots t) j d) (starting_taken r wires nets slots t stand j d low)

pub starting_stored : (r : Results) (wires : List Wire) (nets : ℕ) (slots : List Slot) (t : ℕ) → SlotsStand r wires nets slots → All (CanStore r) (actions_of slots t)
starting_stored r wires nets slots t stand j d low =
    can_store r wires nets (length slots) t (get_or (actions_of slots t) j d) (stand t (get_or (actions_of slots t) j d) (Contains-get_or (actions_of slots t) j d low))

-- the slots of a frame, told of results, wires and slots that are the same
pub slots_there : (r same : Results) (wires same_wires : List Wire) (nets count k : ℕ) (slots : List Slot) → IsRunnable same same_wires count
    → r ≡ same → wires ≡ same_wires → nets ≡ count → slots ≡ frame_slots same k → SlotsStand r wires nets slots
slots_there r same wires same_wires nets count k slots runs results_are wires_are number slots_are =
    subst (λ (some : List Slot). SlotsStand r wires nets some) (sym slots_are)
    (subst (λ (q : Results). SlotsStand q wires nets (frame_slots same k)) (sym results_are)
    (subst (λ (some : List Wire). SlotsStand same some nets (frame_slots same k)) (sym wires_are)
    (subst (λ (n : ℕ). SlotsStand same same_wires n (frame_slots same k)) (sym number) (runs.rules.actions k))))
