-- What actions give, where one state shows and carries what another does.
use Rattle.std.proofs.Common.{◌≡◌, ◌<◌, ◌^◌, ℕ, zero, suc, Bool, true, false, List, [], ◌∷◌, length, map, refl, sym, ap, subst, ◌∙◌, inl, inr, ◌≤◌, if◌then◌else◌, arith, pow-suc}
use Rattle.std.specs.Prelude.{Option, Some, None, Contains, IfSome, ◌==◌, ◌&&◌, slice_get, ◌⊎◌, position, option_map, option_and_then, unwrap_or}
use Rattle.std.specs.Option.{option_or}
use Rattle.std.proofs.lemmas.Bool.{cases_lt}
use Rattle.std.proofs.lemmas.List.{length-map}
use Rattle.std.proofs.lemmas.Option.{none-some, slice_get_past}
use Rattle.std.proofs.lemmas.List.Elements.{Contains-append_right}
use Rattle.id_arena.specs.declared.keys.ChipNetId.{ChipNetId}
use Rattle.id_arena.specs.declared.keys.WireId.{WireId}
use Rattle.id_arena.specs.declared.wire.Wire.{Wire}
use Rattle.design_core.specs.declared.element.Driver.TheVariants as driven
use Rattle.design_core.specs.declared.parts.Parts.{Parts}
use Rattle.design_core.specs.Design.{driver}
use Rattle.design_core.specs.Operation.{bit_of, number, op_value}
use Rattle.emu_machine.specs.declared.netlist.Chip.{Chip}
use Rattle.emu_machine.specs.declared.netlist.EmuMemory.{EmuMemory}
use Rattle.emu_machine.specs.declared.netlist.EmuRead.{EmuRead}
use Rattle.emu_machine.specs.declared.netlist.EmuRegister.{EmuRegister}
use Rattle.emu_machine.specs.declared.netlist.EmuWrite.{EmuWrite}
use Rattle.emu_machine.specs.declared.schedule.Action.{Action}
use Rattle.emu_machine.specs.declared.schedule.Action.TheVariants.{Input, Load, Send, Write, Read}
use Rattle.emu_machine.specs.Building.{AreNetsOf}
use Rattle.emu_machine.specs.Netlist.{chip_at, is_chip_net, no_chip}
use Rattle.emu_machine.specs.Results.{Results}
use Rattle.emu_machine.specs.State.{State, action_carried, action_value, action_word, arriving, first_given, loaded_value, net_number, net_value, net_values, on_register, read_bit, read_port, stored_word, write_port}
use Rattle.facts.proofs.Places.{contains_at}
use Rattle.facts.proofs.Tests.{number_same}
use Rattle.cycle_sim.specs.Loading.{is_source}
use Rattle.cycle_sim.specs.Standing.{CanTake, ChipStands, IsThere, RegisterStands}
use Rattle.cycle_sim.proofs.Chips.{chip_here, net_chip_low}
use Rattle.cycle_sim.proofs.Ports.{read_address_low, read_memory, read_of, write_of}
use Rattle.cycle_sim.proofs.Sources.{same_through, source_there}

-- registers and read ports of two machines hold the same, memories hold the same words at their addresses, and
-- each input of the design has one value outside both
pub record AreAlike (p : Parts) (chips : List Chip) (x y : State) : Type 0 where
  pub held : (c n : ℕ) → is_source (chip_at chips c) n ≡ true → x.held c n ≡ y.held c n
  pub words : (c m a : ℕ) (memory : EmuMemory) → slice_get (chip_at chips c).memories m ≡ Some memory → a < 2 ^ memory.address_bits → x.word c m a ≡ y.word c m a
  pub outside : (n : ℕ) → driver p n ≡ driven.Input → x.outside n ≡ y.outside n

-- an `input` is one of an input of the design
abbrev pub TakesInput : Parts → Action → Type 0
TakesInput p (Input chip register net) = driver p net.place ≡ driven.Input
TakesInput p other = Unit {0}

-- what arrives after more than one slot is the same on the wires of both
abbrev pub ArrivesSame : List Wire → State → State → Action → Type 0
ArrivesSame wires x y (Send wire net register) =
    (ends : Wire) → slice_get wires wire.place ≡ Some ends → (ends.latency == 1) ≡ false → x.carried wire.place ≡ y.carried wire.place
ArrivesSame wires x y other = Unit {0}

-- what the first of some actions to give anything gives is the same, where each gives the same
pub same_given : {A : Type 0} (f g : Action → Option A) (actions : List Action) → ((a : Action) → Contains actions a → f a ≡ g a) → first_given f actions ≡ first_given g actions
same_given f g [] same = refl
same_given f g (a ∷ actions) same =
    ap (λ o. option_or o (first_given f actions)) (same a (contains_at (a ∷ actions) 0 a refl))
    ∙ ap (option_or (g a)) (same_given f g actions (λ b h. same b (Contains-append_right (a ∷ []) actions b h)))

number_low : (bs : List Bool) → number bs < 2 ^ length bs
number_low [] = omega arith
number_low (true ∷ bs) = omega (arith, pow-suc 2 (length bs), number_low bs)
number_low (false ∷ bs) = omega (arith, pow-suc 2 (length bs), number_low bs)

module _ (p : Parts) (r : Results) (stands : (k : ℕ) (one : Chip) → slice_get r.net k ≡ Some one → ChipStands one) (x y : State) (alike : AreAlike p r.net x y) where
  -- what a net shows is a function of what registers and read ports hold
  pub same_net : (k n : ℕ) → n < (chip_at r.net k).nets → net_value r.net x k n ≡ net_value r.net y k n
  same_net k n low =
      let there : slice_get r.net k ≡ Some (chip_at r.net k) = chip_here r.net k (net_chip_low r.net k n low) in
      same_through (chip_at r.net k) (stands k (chip_at r.net k) there) (x.held k) (y.held k) (λ gate bits. op_value gate.op bits)
      (λ m within none. alike.held k m (source_there (chip_at r.net k) (stands k (chip_at r.net k) there) m within none)) n low

  same_nets : (k : ℕ) (named : List ChipNetId) → AreNetsOf (chip_at r.net k).nets named → net_values r.net x k named ≡ net_values r.net y k named
  same_nets k [] there = refl
  same_nets k (n ∷ named) there =
      ap (λ b. b ∷ net_values r.net x k named) (same_net k n.place (there 0 n refl))
      ∙ ap (λ bits. net_value r.net y k n.place ∷ bits) (same_nets k named (λ i. there (suc i)))

  same_number_shown : (k : ℕ) (named : List ChipNetId) → AreNetsOf (chip_at r.net k).nets named → net_number r.net x k named ≡ net_number r.net y k named
  same_number_shown k named there = ap number (same_nets k named there)

  -- ## What registers are given

  -- what a register is given is the same, where that of the chip is
  on_same : (chip k : ℕ) (f g : EmuRegister → Option Bool) (c n : ℕ)
      → ((register : EmuRegister) → slice_get (chip_at r.net chip).registers k ≡ Some register → f register ≡ g register)
      → on_register r.net chip k f c n ≡ on_register r.net chip k g c n
  on_same chip k f g c n same = by_chip (chip == c) refl
    where
      by_register : (o : Option EmuRegister) → slice_get (chip_at r.net chip).registers k ≡ o
          → option_and_then (λ register. if is_chip_net n register.q then f register else None) o
          ≡ option_and_then (λ register. if is_chip_net n register.q then g register else None) o
      by_register None e = refl
      by_register (Some register) e = ap (λ v. if is_chip_net n register.q then v else None) (same register e)

      by_chip : (b : Bool) → (chip == c) ≡ b
          → (if b then option_and_then (λ register. if is_chip_net n register.q then f register else None) (slice_get (chip_at r.net c).registers k) else None)
          ≡ (if b then option_and_then (λ register. if is_chip_net n register.q then g register else None) (slice_get (chip_at r.net c).registers k) else None)
      by_chip false e = refl
      by_chip true e =
          by_register (slice_get (chip_at r.net c).registers k) (ap (λ (j : ℕ). slice_get (chip_at r.net j).registers k) (number_same chip c e))

  same_loaded : (k : ℕ) (d enable : Option ChipNetId) → IfSome d (IsThere (chip_at r.net k).nets) → IfSome enable (IsThere (chip_at r.net k).nets)
      → loaded_value (λ m. net_value r.net x k m.place) d enable ≡ loaded_value (λ m. net_value r.net y k m.place) d enable
  same_loaded k None enable there on = refl
  same_loaded k (Some d) None there on = ap Some (same_net k d.place there)
  same_loaded k (Some d) (Some enable) there on =
      ap (λ b. if b then Some (net_value r.net x k d.place) else None) (same_net k enable.place on)
      ∙ ap (λ b. if net_value r.net y k enable.place then Some b else None) (same_net k d.place there)

  register_stands : (k j : ℕ) (register : EmuRegister) → slice_get (chip_at r.net k).registers j ≡ Some register → RegisterStands (chip_at r.net k).nets register
  register_stands k j register at = go (cases_lt k (length r.net))
    where
      go : (k < length r.net) ⊎ (length r.net ≤ k) → RegisterStands (chip_at r.net k).nets register
      go (inl low) = (stands k (chip_at r.net k) (chip_here r.net k low)).registers j register at
      go (inr high) = absurd (none-some register (sym (ap (λ o. slice_get (unwrap_or o no_chip).registers j) (slice_get_past r.net k high)) ∙ at))

  module _ (wires : List Wire) (nets : ℕ) where
    same_arriving : (wire : WireId) (net : ChipNetId) (ends : Wire) → net.place < (chip_at r.net ends.from.place).nets
        → ((ends.latency == 1) ≡ false → x.carried wire.place ≡ y.carried wire.place)
        → arriving r.net x ends wire.place net ≡ arriving r.net y ends wire.place net
    same_arriving wire net ends low carried = go (ends.latency == 1) refl
      where
        go : (b : Bool) → (ends.latency == 1) ≡ b
            → (if b then net_value r.net x ends.from.place net.place else x.carried wire.place)
            ≡ (if b then net_value r.net y ends.from.place net.place else y.carried wire.place)
        go true e = same_net ends.from.place net.place low
        go false e = carried e

    same_read : (k m j n : ℕ) (o : Option EmuRead) → read_port r.net k m j ≡ o
        → option_and_then (λ port. read_bit r.net x k m port n) o ≡ option_and_then (λ port. read_bit r.net y k m port n) o
    same_read k m j n None e = refl
    same_read k m j n (Some port) e =
        ap (λ w. option_map (λ b. bit_of w b) (position (is_chip_net n) port.bits)) word
      where
        at : net_number r.net x k port.address ≡ net_number r.net y k port.address
        at = same_number_shown k port.address (read_of r stands k m j port e).address

        low : net_number r.net y k port.address < 2 ^ length port.address
        low =
            subst (λ (bits : ℕ). net_number r.net y k port.address < 2 ^ bits) (length-map port.address (λ (i : ChipNetId). net_value r.net y k i.place))
            (number_low (net_values r.net y k port.address))

        word : x.word k m (net_number r.net x k port.address) ≡ y.word k m (net_number r.net y k port.address)
        word =
            ap (x.word k m) at
            ∙ alike.words k m (net_number r.net y k port.address) _ (read_memory r stands k m j port e) (read_address_low r stands k m j port e (net_number r.net y k port.address) low)

    -- an action that names what is there gives each register and read net the same
    pub same_value : (a : Action) → CanTake r wires nets a → TakesInput p a → ArrivesSame wires x y a → (c n : ℕ) → action_value r.net wires x a c n ≡ action_value r.net wires y a c n
    same_value (Input chip register net) can input arrives c n =
        ap (λ (b : Bool). on_register r.net chip.place register.place (λ one. Some b) c n) (alike.outside net.place input)
    same_value (Load chip register) can input arrives c n =
        on_same chip.place register.place (λ one. loaded_value (λ m. net_value r.net x chip.place m.place) one.d one.enable) (λ one. loaded_value (λ m. net_value r.net y chip.place m.place) one.d one.enable) c n
        (λ one at. let is = register_stands chip.place register.place one at in same_loaded chip.place one.d one.enable is.d is.enable)
    same_value (Send wire net register) can input arrives c n =
        ap (option_and_then (λ (ends : Wire). on_register r.net ends.to.place register.place (λ one. Some (arriving r.net x ends wire.place net)) c n)) can.1
        ∙ ap (λ (b : Bool). on_register r.net can.0.to.place register.place (λ one. Some b) c n) (same_arriving wire net can.0 can.3 (arrives can.0 can.1))
        ∙ sym (ap (option_and_then (λ (ends : Wire). on_register r.net ends.to.place register.place (λ one. Some (arriving r.net y ends wire.place net)) c n)) can.1)
    same_value (Write chip mem port) can input arrives c n = refl
    same_value (Read chip mem port) can input arrives c n =
        ap (λ o. if chip.place == c then o else None) (same_read c mem.place port n (read_port r.net c mem.place port) refl)

    -- ## What words and wires are given

    same_stored : (k m j a : ℕ) (o : Option EmuWrite) → write_port r.net k m j ≡ o
        → option_and_then (λ port. stored_word r.net x k port a) o ≡ option_and_then (λ port. stored_word r.net y k port a) o
    same_stored k m j a None e = refl
    same_stored k m j a (Some port) e =
        let of = write_of r stands k m j port e in
        ap (λ b. if b && (net_number r.net x k port.address == a) then Some (net_number r.net x k port.feed) else None) (same_net k port.enable.place of.enable)
        ∙ ap (λ i. if net_value r.net y k port.enable.place && (i == a) then Some (net_number r.net x k port.feed) else None) (same_number_shown k port.address of.address)
        ∙ ap (λ w. if net_value r.net y k port.enable.place && (net_number r.net y k port.address == a) then Some w else None) (same_number_shown k port.feed of.feed)

    -- an action gives each word the same
    pub same_word : (action : Action) (c m a : ℕ) → action_word r.net x action c m a ≡ action_word r.net y action c m a
    same_word (Write chip mem port) c m a =
        ap (λ o. if (chip.place == c) && (mem.place == m) then o else None) (same_stored c m port a (write_port r.net c m port) refl)
    same_word (Input chip register net) c m a = refl
    same_word (Load chip register) c m a = refl
    same_word (Send wire net register) c m a = refl
    same_word (Read chip mem port) c m a = refl

    -- an action that names what is there gives each wire the same
    pub same_carried : (a : Action) → CanTake r wires nets a → (w : ℕ) → action_carried r.net wires x a w ≡ action_carried r.net wires y a w
    same_carried (Send wire net register) can w = by_wire (wire.place == w) refl
      where
        by_wire : (b : Bool) → (wire.place == w) ≡ b
            → (if b then option_map (λ (ends : Wire). net_value r.net x ends.from.place net.place) (slice_get wires w) else None)
            ≡ (if b then option_map (λ (ends : Wire). net_value r.net y ends.from.place net.place) (slice_get wires w) else None)
        by_wire false e = refl
        by_wire true e =
            let at : slice_get wires w ≡ Some can.0 = ap (slice_get wires) (sym (number_same wire.place w e)) ∙ can.1 in
            ap (option_map (λ (ends : Wire). net_value r.net x ends.from.place net.place)) at
            ∙ ap Some (same_net can.0.from.place net.place can.3)
            ∙ sym (ap (option_map (λ (ends : Wire). net_value r.net y ends.from.place net.place)) at)
    same_carried (Input chip register net) can w = refl
    same_carried (Load chip register) can w = refl
    same_carried (Write chip mem port) can w = refl
    same_carried (Read chip mem port) can w = refl
