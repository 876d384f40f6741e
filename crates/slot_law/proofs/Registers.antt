-- The actions whose target is a register: what is taken in, what is sent, and what is loaded.
use Rattle.std.proofs.Common.{◌≡◌, ℕ, ◌+◌, ◌<◌, arith, Bool, true, false, List, [], ◌∷◌, ◌++◌, length, refl, subst, sym, ap, ◌∙◌, inl, if◌then◌else◌}
use Rattle.std.specs.Prelude.{◌||◌, ◌&&◌, ◌==◌, nat_le, nat_lt, Option, Some, None, slice_get, option_and_then}
use Rattle.std.specs.List.{list_any}
use Rattle.std.specs.Option.{option_map_or}
use Rattle.std.proofs.lemmas.Bool.{and_from}
use Rattle.std.proofs.lemmas.Bool.Decides.{nat_tests}
use Rattle.id_arena.specs.declared.keys.NetId.{NetId}
use Rattle.id_arena.specs.declared.keys.ChipId.{ChipId}
use Rattle.id_arena.specs.declared.keys.ChipNetId.{ChipNetId}
use Rattle.id_arena.specs.declared.keys.RegId.{RegId}
use Rattle.id_arena.specs.declared.keys.WireId.{WireId}
use Rattle.id_arena.specs.declared.wire.Wire.{Wire}
use Rattle.design_core.specs.declared.node.NodeId.{NodeId}
use Rattle.design_core.specs.declared.values.PortBit.{PortBit}
use Rattle.design_core.specs.Valuation.{Valuation}
use Rattle.emu_machine.specs.declared.netlist.EmuGate.{EmuGate}
use Rattle.emu_machine.specs.declared.netlist.EmuRegister.{EmuRegister}
use Rattle.emu_machine.specs.declared.map.Subject.{Subject}
use Rattle.emu_machine.specs.declared.map.Subject.TheVariants.{Net}
use Rattle.emu_machine.specs.declared.place.Thing.TheVariants as thing
use Rattle.emu_machine.specs.declared.schedule.Action.{Action}
use Rattle.emu_machine.specs.declared.schedule.Action.TheVariants as action
use Rattle.emu_machine.specs.Netlist.{chip_at}
use Rattle.design_core.specs.Operation.{op_value}
use Rattle.emu_machine.specs.State.{State, net_value, on_register, loaded_value, arriving, action_value, frame_slots, timed_actions, slots_taken}
use Rattle.emu_machine.specs.Mapped.{subject}
use Rattle.emu_machine.specs.Marks.{Mark, MarkState, only_after, net_mark, load_mark, arriving_mark, action_mark}
use Rattle.emu_machine.specs.Origins.{same_subject, has_subject, register_pins_fit}
use Rattle.emu_machine.specs.Acceptance.{Case, is_in_group, register_at, register_subject, used_if, same_thing, same_subjects, keeps_subject}
use Rattle.emu_machine.specs.Law.{IsCase}
use Rattle.marks_law.specs.Facts.{EventFacts}
use Rattle.marks_law.specs.Truth.{IsTrueOf, NetsTrue}
use Rattle.facts.proofs.Tests.{no, left, right, number_same, same_number}
use Rattle.facts.proofs.Places.{contains_at}
use Rattle.marks_law.proofs.Inputs.{same_subject_is}
use Rattle.marks_law.specs.Slots.{StateTrue, PartsFit}
use Rattle.marks_law.proofs.Given.{on_both, same_subjects_are}
use Rattle.marks_law.proofs.Groups.{group_net_is_input}
use Rattle.marks_law.proofs.FrameActions.{EndsIn}
use Rattle.slot_law.proofs.Targets.{GivesRegister, GivesNet, UsesAtEnd, register_thing, on_register_net}
use Rattle.slot_law.proofs.Kept.{IsGiven, nothing, fresh, stays}
use Rattle.slot_law.proofs.Loads.{TakesUnder, load_taken, load_kept}
use Rattle.slot_law.proofs.Takes.{takes_under}

-- ## The registers that actions use

-- a register is the same as itself
same_register : (chip : ChipId) (reg : RegId) → same_thing (register_thing chip.place reg.place) (thing.Register chip reg) ≡ true
same_register chip reg = and_from _ _ (same_number chip.place chip.place refl) (same_number reg.place reg.place refl)

-- a `send` over a wire of more than one slot is on its way at the start of its last slot
on_its_way_at_end : (t slot taken latency : ℕ) → taken ≡ latency → (latency == 1) ≡ false → (nat_le slot t && (t + 1 == slot + taken)) ≡ true
    → (nat_lt slot t && (nat_le slot t && nat_lt t (slot + taken))) ≡ true
on_its_way_at_end t slot taken latency told more last =
    let end : t + 1 ≡ slot + taken = number_same (t + 1) (slot + taken) (right (nat_le slot t) _ last) in
    let early : nat_le slot t ≡ true = left _ _ last in
    let before : nat_lt slot t ≡ true = grind (arith, nat_tests) in
    let within : nat_lt t (slot + taken) ≡ true = grind (arith, nat_tests) in
    ap (λ b. b && (nat_le slot t && nat_lt t (slot + taken))) before ∙ ap (λ b. b && nat_lt t (slot + taken)) early ∙ within

module _ (c : Case) (frame : ℕ) (is : IsCase c) (parts : PartsFit c) (inside : NodeId → Bool) (v w : Valuation) (event : List PortBit)
    (facts : EventFacts c.design inside v event w) (t : ℕ) (s : MarkState) (x : State)
    (old : StateTrue c frame t v w s x) (nets : NetsTrue c.design c.results inside v w s x) where
  -- what an action gives to a net
  abbrev pub Given : ℕ → ℕ → Action → Option Mark → Option Bool → Type 0
  Given chip n a = IsGiven c.design v w (subject c.results chip n) (x.held chip n) (GivesRegister c chip n a) (GivesNet c chip n a)

  -- a net that its chip has
  abbrev IsThere : ℕ → ℕ → Type 0
  IsThere chip n = n < (chip_at c.results.net chip).nets

  -- what is given on a register is shown at the register's own chip and net
  at_register : (at place chip n : ℕ) (a : Action) (f : EmuRegister → Option Mark) (g : EmuRegister → Option Bool)
      → IsThere chip n
      → UsesAtEnd c.board.wires (register_thing at place) a
      → ((register : EmuRegister) → register_at c at place ≡ Some register → IsThere at register.q.place → GivesRegister c at register.q.place a → Given at register.q.place a (f register) (g register))
      → Given chip n a (on_register c.results.net at place f chip n) (on_register c.results.net at place g chip n)
  at_register at place chip n a f g small used shown =
      on_both c.results.net at place chip n f g (Given chip n a) nothing
      (λ register here found q.
      let there : register_at c at place ≡ Some register = subst (λ (i : ℕ). register_at c i place ≡ Some register) (sym here) found in
      let low : IsThere at register.q.place = subst (λ (i : ℕ). IsThere i register.q.place) (sym here) (subst (λ (j : ℕ). IsThere chip j) (sym q) small) in
      subst (λ (i : ℕ). Given i n a (f register) (g register)) here
      (subst (λ (j : ℕ). Given at j a (f register) (g register)) q
      (shown register there low (record { here = record { place = place; register = register; at = there; q = refl }; used = used }))))

  -- ## Inputs

  -- an `input` gives the outside value, which is that after the event
  pub given_input : (chip n : ℕ) (on : ChipId) (reg : RegId) (net : NetId) → IsThere chip n
      → is_in_group c frame net.place ≡ true
      → keeps_subject c (action.Input on reg net) ≡ true
      → Given chip n (action.Input on reg net)
      (action_mark c.design c.results c.board.wires inside s (action.Input on reg net) chip n)
      (action_value c.results.net c.board.wires x (action.Input on reg net) chip n)
  given_input chip n on reg net small fits keeps =
      at_register on.place reg.place chip n (action.Input on reg net) (λ q. Some only_after) (λ r. Some (x.outside net.place)) small
      (λ under_way. ap (λ b. b || false) (same_register on reg))
      (λ register found low own.
      let of : subject c.results on.place register.q.place ≡ Some (Net net) =
      same_subjects_are (subject c.results on.place register.q.place) (Some (Net net))
      (ap (λ o. same_subjects (option_and_then (λ (r : EmuRegister). subject c.results on.place r.q.place) o) (Some (Net net))) (sym found) ∙ keeps) in
      fresh only_after (x.outside net.place) (inl own)
      (subst (λ o. IsTrueOf c.design v w o only_after (x.outside net.place)) (sym of)
      (record { before = λ a. no a; after = λ a. old.outside net.place (group_net_is_input c frame net.place is fits) })))

  -- ## Sends

  -- the mark that arrives at the far end of a wire
  abbrev arrived_mark : Wire → ℕ → ChipNetId → Mark
  arrived_mark ends wire net = arriving_mark c.design c.results inside s ends wire net

  -- the value that arrives there
  abbrev arrived_value : Wire → ℕ → ChipNetId → Bool
  arrived_value ends wire net = arriving c.results.net x ends wire net

  -- a `send` uses the register at the far end in its last slot
  send_uses : (wire : WireId) (net : ChipNetId) (reg : RegId) (ends : Wire) → slice_get c.board.wires wire.place ≡ Some ends
      → UsesAtEnd c.board.wires (register_thing ends.to.place reg.place) (action.Send wire net reg)
  send_uses wire net reg ends at under_way =
      ap
      (λ o. list_any (same_thing (register_thing ends.to.place reg.place)) (used_if under_way (thing.Wire wire) ++ option_map_or (λ (e : Wire). thing.Register e.to reg ∷ []) o []))
      at
      ∙ by_wire under_way
    where
      by_wire : (under_way : Bool) → list_any (same_thing (register_thing ends.to.place reg.place)) (used_if under_way (thing.Wire wire) ++ thing.Register ends.to reg ∷ []) ≡ true
      by_wire true = ap (λ b. b || false) (same_register ends.to reg)
      by_wire false = ap (λ b. b || false) (same_register ends.to reg)

  -- what arrives bears true marks: over one slot the net shows it now, and over more the wire carries it
  arrives_true : (wire : WireId) (net : ChipNetId) (reg : RegId) (ends : Wire) → slice_get c.board.wires wire.place ≡ Some ends
      → EndsIn c.board.wires (frame_slots c.results frame) t (action.Send wire net reg)
      → IsTrueOf c.design v w (subject c.results ends.from.place net.place) (arrived_mark ends wire.place net) (arrived_value ends wire.place net)
  arrives_true wire net reg ends at end = go (ends.latency == 1) refl
    where
      go : (one : Bool) → (ends.latency == 1) ≡ one
          → IsTrueOf c.design v w (subject c.results ends.from.place net.place)
          (if one then net_mark c.design c.results inside s ends.from.place net.place else s.carried wire.place)
          (if one then net_value c.results.net x ends.from.place net.place else x.carried wire.place)
      go true e = nets ends.from.place net.place
      go false e =
          old.flights end.from wire net reg ends (contains_at (timed_actions (frame_slots c.results frame)) end.place end.from end.at) (sym end.is) at
          (on_its_way_at_end t end.from.slot (slots_taken c.board.wires end.from.action) ends.latency
          (ap (slots_taken c.board.wires) (sym end.is) ∙ ap (λ o. option_map_or (λ (ends : Wire). ends.latency) o 1) at)
          e end.last)

  -- the register stands for the net that was sent
  send_true : (wire : WireId) (net : ChipNetId) (reg : RegId) (ends : Wire) → slice_get c.board.wires wire.place ≡ Some ends
      → keeps_subject c (action.Send wire net reg) ≡ true
      → EndsIn c.board.wires (frame_slots c.results frame) t (action.Send wire net reg)
      → (register : EmuRegister) → register_at c ends.to.place reg.place ≡ Some register
      → IsTrueOf c.design v w (subject c.results ends.to.place register.q.place) (arrived_mark ends wire.place net) (arrived_value ends wire.place net)
  send_true wire net reg ends at keeps end register found =
      let kept : same_subjects (subject c.results ends.from.place net.place) (register_subject c ends.to.place reg.place) ≡ true =
      sym (ap (λ o. option_map_or (λ (e : Wire). same_subjects (subject c.results e.from.place net.place) (register_subject c e.to.place reg.place)) o false) at) ∙ keeps in
      let same : subject c.results ends.from.place net.place ≡ subject c.results ends.to.place register.q.place =
      same_subjects_are _ _
      (sym (ap (λ o. same_subjects (subject c.results ends.from.place net.place) (option_and_then (λ (r : EmuRegister). subject c.results ends.to.place r.q.place) o)) found) ∙ kept) in
      subst (λ o. IsTrueOf c.design v w o (arrived_mark ends wire.place net) (arrived_value ends wire.place net)) same (arrives_true wire net reg ends at end)

  -- a `send` gives what arrives
  pub given_send : (chip n : ℕ) (wire : WireId) (net : ChipNetId) (reg : RegId) → IsThere chip n
      → keeps_subject c (action.Send wire net reg) ≡ true
      → EndsIn c.board.wires (frame_slots c.results frame) t (action.Send wire net reg)
      → Given chip n (action.Send wire net reg)
      (action_mark c.design c.results c.board.wires inside s (action.Send wire net reg) chip n)
      (action_value c.results.net c.board.wires x (action.Send wire net reg) chip n)
  given_send chip n wire net reg small keeps end = go (slice_get c.board.wires wire.place) refl
    where
      go : (o : Option Wire) → slice_get c.board.wires wire.place ≡ o
          → Given chip n (action.Send wire net reg)
          (option_and_then (λ ends. on_register c.results.net ends.to.place reg.place (λ q. Some (arrived_mark ends wire.place net)) chip n) o)
          (option_and_then (λ ends. on_register c.results.net ends.to.place reg.place (λ r. Some (arrived_value ends wire.place net)) chip n) o)
      go None at = nothing
      go (Some ends) at =
          at_register ends.to.place reg.place chip n (action.Send wire net reg) (λ q. Some (arrived_mark ends wire.place net)) (λ r. Some (arrived_value ends wire.place net)) small
          (send_uses wire net reg ends at)
          (λ register found low own. fresh (arrived_mark ends wire.place net) (arrived_value ends wire.place net) (inl own) (send_true wire net reg ends at keeps end register found))

  -- ## Loads

  module _ (on : ℕ) (a : Action) where
    -- the mark of a net of the chip
    abbrev mark_of : ChipNetId → Mark
    mark_of m = net_mark c.design c.results inside s on m.place

    -- the value that it shows
    abbrev value_of : ChipNetId → Bool
    value_of m = net_value c.results.net x on m.place

    -- a register without an enable takes the marks of its D, which stands for the same net
    plain_load : (q d : ChipNetId) (o : Option Subject) → subject c.results on q.place ≡ o → option_map_or (has_subject c.results on d) o false ≡ true
        → IsTrueOf c.design v w (subject c.results on q.place) (mark_of d) (value_of d)
    plain_load q d None at h = no h
    plain_load q d (Some what) at h = by_subject (subject c.results on d.place) refl h
      where
        by_subject : (o : Option Subject) → subject c.results on d.place ≡ o → option_map_or (same_subject what) o false ≡ true
            → IsTrueOf c.design v w (subject c.results on q.place) (mark_of d) (value_of d)
        by_subject None e h = no h
        by_subject (Some other) e h =
            subst (λ o. IsTrueOf c.design v w o (mark_of d) (value_of d)) (e ∙ ap Some (sym (same_subject_is what other h)) ∙ sym at) (nets on d.place)

    -- one with an enable takes what its D shows, or keeps what it holds
    enabled_load : (q d enable : ChipNetId) → TakesUnder c.design v w c.results on q d enable → GivesRegister c on q.place a → net_value c.results.net x on q.place ≡ x.held on q.place
        → Given on q.place a (load_mark mark_of q (Some d) (Some enable)) (loaded_value value_of (Some d) (Some enable))
    enabled_load q d enable stands own shown = go (value_of enable) refl
      where
        true_q : IsTrueOf c.design v w (subject c.results on q.place) (mark_of q) (x.held on q.place)
        true_q = subst (λ b. IsTrueOf c.design v w (subject c.results on q.place) (mark_of q) b) shown (nets on q.place)

        go : (b : Bool) → value_of enable ≡ b → Given on q.place a (load_mark mark_of q (Some d) (Some enable)) (if b then Some (value_of d) else None)
        go true e =
            fresh _ (value_of d) (inl own)
            (load_taken c.design v w c.results on q d enable stands (mark_of d) (mark_of enable) (mark_of q) (value_of d) (value_of enable) (x.held on q.place)
            (nets on d.place) (nets on enable.place) true_q e)
        go false e =
            stays _ own
            (load_kept c.design v w c.results on q d enable stands (mark_of d) (mark_of enable) (mark_of q) (value_of d) (value_of enable) (x.held on q.place)
            (nets on d.place) (nets on enable.place) true_q e)

    -- by the pins of the register
    by_pins : (q : ChipNetId) (d enable : Option ChipNetId) → register_pins_fit c.design c.results on q d enable ≡ true → GivesRegister c on q.place a → net_value c.results.net x on q.place ≡ x.held on q.place
        → Given on q.place a (load_mark mark_of q d enable) (loaded_value value_of d enable)
    by_pins q None enable fits own shown = nothing
    by_pins q (Some d) None fits own shown =
        fresh (mark_of d) (value_of d) (inl own) (plain_load q d (subject c.results on q.place) refl (right _ _ fits))
    by_pins q (Some d) (Some enable) fits own shown =
        enabled_load q d enable (takes_under c.design inside v w event facts c.results on q d enable fits) own shown

  -- a `load` gives what is true of the net of the register
  pub given_load : (chip n : ℕ) (on : ChipId) (reg : RegId) → IsThere chip n
      → Given chip n (action.Load on reg)
      (action_mark c.design c.results c.board.wires inside s (action.Load on reg) chip n)
      (action_value c.results.net c.board.wires x (action.Load on reg) chip n)
  given_load chip n on reg small =
      at_register on.place reg.place chip n (action.Load on reg)
      (λ q. load_mark (mark_of on.place (action.Load on reg)) q.q q.d q.enable)
      (λ r. loaded_value (value_of on.place (action.Load on reg)) r.d r.enable)
      small
      (λ under_way. ap (λ b. b || false) (same_register on reg))
      (λ register found low own.
      by_pins on.place (action.Load on reg) register.q register.d register.enable (parts.registers on.place reg.place register found) own
      (on_register_net (chip_at c.results.net on.place) register.q.place (is.netlist on.place register.q.place low) own.here (x.held on.place)
      (λ (gate : EmuGate) bits. op_value gate.op bits) (length (chip_at c.results.net on.place).gates)))
