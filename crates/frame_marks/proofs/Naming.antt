-- What actions name, where they fit.
use Rattle.std.proofs.Common.{◌≡◌, ◌<◌, ℕ, true, List, get_or, length, refl, arith}
use Rattle.std.specs.Prelude.{is_some, Option, Some, None, slice_get, All}
use Rattle.std.proofs.lemmas.List.Elements.{Contains-get_or}
use Rattle.id_arena.specs.declared.keys.ChipNetId.{ChipNetId}
use Rattle.id_arena.specs.declared.keys.RegId.{RegId}
use Rattle.id_arena.specs.declared.keys.WireId.{WireId}
use Rattle.id_arena.specs.declared.wire.Wire.{Wire}
use Rattle.chip_pass.specs.Chips.{ChipState}
use Rattle.emu_machine.specs.declared.netlist.EmuRegister.{EmuRegister}
use Rattle.emu_machine.specs.Results.{Results}
use Rattle.emu_machine.specs.declared.schedule.Action.{Action}
use Rattle.emu_machine.specs.declared.schedule.Action.TheVariants.{Input, Load, Send, Write, Read}
use Rattle.emu_machine.specs.declared.schedule.Slot.{Slot}
use Rattle.emu_machine.specs.Netlist.{chip_at}
use Rattle.emu_machine.specs.Marks.{Mark}
use Rattle.emu_machine.specs.State.{read_port, write_port, actions_of, ending}
use Rattle.emu_machine.specs.Acceptance.{register_of, is_hold, is_loaded, send_fits, action_fits}
use Rattle.facts.proofs.Tests.{no, left, right, below}
use Rattle.slot_endings.proofs.Timed.{all_ending}
use Rattle.frame_marks.specs.Frames.{FrameStands}
use Rattle.frame_marks.specs.Standing.{IsRegister, IsSending, IsNamed, CanSend}
use Rattle.frame_marks.specs.Tables.{AreChipTables, nets_in}
use Rattle.frame_marks.proofs.Numbers.{net_chip_low, nets_are}

some_there : {X : Type 0} (o : Option X) → is_some o ≡ true → (x : X) × (o ≡ Some x)
some_there None h = no h
some_there (Some x) h = (x, refl)

module _ (r : Results) (wires : List Wire) where
  hold_there : (c k : ℕ) (o : Option EmuRegister) → register_of r.net c k ≡ o → is_hold o ≡ true → IsRegister r c k
  hold_there c k None e h = no h
  hold_there c k (Some register) e h = (register, e)

  loaded_there : (c k : ℕ) (o : Option EmuRegister) → register_of r.net c k ≡ o → is_loaded o ≡ true → IsRegister r c k
  loaded_there c k None e h = no h
  loaded_there c k (Some register) e h = (register, e)

  sent_there : (slots t : ℕ) (wire : WireId) (net : ChipNetId) (register : RegId) (o : Option Wire) → slice_get wires wire.place ≡ o
      → send_fits r.net slots t net register.place o ≡ true → IsSending r wires wire.place net.place register.place
  sent_there slots t wire net register None e h = no h
  sent_there slots t wire net register (Some ends) e h =
      let named = left _ _ h in (
        ends,
        e,
        hold_there ends.to.place register.place (register_of r.net ends.to.place register.place) refl (right _ _ named),
        below net.place (chip_at r.net ends.from.place).nets (left _ _ named),
      )

  -- an action that fits names what is there
  is_named : (slots t : ℕ) (a : Action) → action_fits r.net wires (λ n. true) slots t a ≡ true → IsNamed r wires a
  is_named slots t (Input chip register net) fits =
      hold_there chip.place register.place (register_of r.net chip.place register.place) refl (left _ _ fits)
  is_named slots t (Load chip register) fits =
      loaded_there chip.place register.place (register_of r.net chip.place register.place) refl fits
  is_named slots t (Send wire net register) fits =
      sent_there slots t wire net register (slice_get wires wire.place) refl fits
  is_named slots t (Write chip mem port) fits = some_there (write_port r.net chip.place mem.place port) fits
  is_named slots t (Read chip mem port) fits = some_there (read_port r.net chip.place mem.place port) fits

  -- and what it sends stands in the tables
  can_send : (chips : List (ChipState Mark)) → AreChipTables r chips → (a : Action) → IsNamed r wires a → CanSend wires chips a
  can_send chips are (Input chip register net) named = tt
  can_send chips are (Load chip register) named = tt
  can_send chips are (Send wire net register) (ends, at, register_is, low) =
      let chip_low : ends.from.place < length r.net = net_chip_low r.net ends.from.place net.place low in
      let nets : nets_in chips ends.from.place ≡ (chip_at r.net ends.from.place).nets = nets_are r chips are ends.from.place in
      (ends, at, omega (arith, are.count, chip_low), omega (arith, nets, low))
  can_send chips are (Write chip mem port) named = tt
  can_send chips are (Read chip mem port) named = tt

  module _ (slots : List Slot) (t : ℕ) (stand : FrameStands r wires slots) where
    pub ending_named : All (IsNamed r wires) (ending wires slots t)
    ending_named = all_ending (IsNamed r wires) wires slots t (λ u a has. is_named (length slots) u a (stand u a has))

    pub starting_named : All (IsNamed r wires) (actions_of slots t)
    starting_named j d low =
        is_named (length slots) t (get_or (actions_of slots t) j d) (stand t (get_or (actions_of slots t) j d) (Contains-get_or (actions_of slots t) j d low))

    pub starting_sent : (chips : List (ChipState Mark)) → AreChipTables r chips → All (CanSend wires chips) (actions_of slots t)
    starting_sent chips are j d low =
        can_send chips are (get_or (actions_of slots t) j d) (starting_named j d low)
