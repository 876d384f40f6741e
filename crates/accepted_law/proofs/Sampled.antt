-- In each slot of a frame each action takes sampled data.
use Rattle.std.proofs.Common.{◌≡◌, ℕ, Bool, true, false, List, map, sym, ap, ◌∙◌}
use Rattle.std.specs.Prelude.{◌==◌, ◌&&◌, Some, slice_get, option_map, option_and_then, Contains}
use Rattle.std.specs.Option.{option_map_or}
use Rattle.std.proofs.lemmas.Option.{same_Some}
use Rattle.id_arena.specs.declared.keys.NetId.{NetId}
use Rattle.id_arena.specs.declared.keys.ChipNetId.{ChipNetId}
use Rattle.design_core.specs.declared.element.Edge.{Edge}
use Rattle.design_core.specs.declared.element.Flop.{Flop}
use Rattle.design_core.specs.declared.element.Memory.{Memory}
use Rattle.design_core.specs.declared.element.ReadPort.{ReadPort}
use Rattle.design_core.specs.declared.element.WritePort.{WritePort}
use Rattle.design_core.specs.declared.node.NodeId.{NodeId}
use Rattle.design_core.specs.declared.values.PortBit.{PortBit}
use Rattle.design_core.specs.Design.{driver}
use Rattle.design_core.specs.Valuation.{Valuation, values, addressed_bit}
use Rattle.design_core.specs.Event.{stores}
use Rattle.emu_machine.specs.declared.netlist.EmuRegister.{EmuRegister}
use Rattle.emu_machine.specs.declared.netlist.EmuWrite.{EmuWrite}
use Rattle.emu_machine.specs.declared.map.Subject.TheVariants.{Net, TakeWrite, Old, TakeRead}
use Rattle.emu_machine.specs.declared.schedule.Action.{Action}
use Rattle.emu_machine.specs.declared.schedule.Action.TheVariants as action
use Rattle.emu_machine.specs.State.{State, net_value, write_port, frame_slots}
use Rattle.emu_machine.specs.Mapped.{subject, subject_value, design_write, flop_takes, flop_next, read_takes}
use Rattle.emu_machine.specs.Marks.{MarkState, net_mark, net_marks, all_before, write_counts, marks_at}
use Rattle.emu_machine.specs.Origins.{Loading, flop_loading, read_loading, driver_loading, loading_of, loading_fits, register_pins_fit}
use Rattle.emu_machine.specs.declared.rule.Rule.{Rule}
use Rattle.emu_machine.specs.Acceptance.{Case, Holds, slot_actions, register_at, has_frame, is_kept_register}
use Rattle.emu_machine.specs.Headline.{LoadIsSampled, ReadIsSampled, WriteIsSampled, ActionIsSampled}
use Rattle.emu_machine.specs.Law.{IsCase}
use Rattle.marks_law.specs.Facts.{EventFacts}
use Rattle.marks_law.specs.Truth.{NetsTrue}
use Rattle.facts.proofs.Tests.{left, right}
use Rattle.marks_law.proofs.Inputs.{of_subject, inputs_true, before_values}
use Rattle.marks_law.proofs.Through.{gates_keep_marks}
use Rattle.marks_law.specs.Slots.{StateTrue, PartsFit, FrameFits}
use Rattle.facts.proofs.Places.{at_contains}
use Rattle.marks_law.proofs.Chips.{one_driver}
use Rattle.agreement_law.proofs.Accepted.{frame_fits, register_ends_after, memory_ends_done}
use Rattle.agreement_law.proofs.FrameEnd.{parts_fit}
use Rattle.slot_law.proofs.Memories.{StandsForMemory, stands_for_memory, of_is, write_beside, write_port_at}
use Rattle.accepted_law.proofs.Loads.{load_marks}
use Rattle.accepted_law.proofs.Writes.{write_is_counted}

module _ (c : Case) (is : IsCase c) (inside : ℕ → NodeId → Bool) (rules : (rule : Rule) → Holds c inside rule)
    (k : ℕ) (there : has_frame c k ≡ true) (v w : Valuation) where
  parts : PartsFit c
  parts = parts_fit c is inside rules

  fit : FrameFits c k
  fit = frame_fits c inside rules k

  module _ (t : ℕ) (x : State) where
    -- the marks at the start of the slot
    abbrev s : MarkState
    s = marks_at c.design c.results c.board.wires (inside k) (frame_slots c.results k) t

    module _ (nets : NetsTrue c.design c.results (inside k) v w s x) where
      -- ## Loads

      -- a kept register that is loaded under an enable finds at its D and its enable what its net demands
      load_finds : (chip i j : ℕ) → slice_get (slot_actions c k t) j ≡ Some (action.Load (record { place = chip }) (record { place = i }))
          → (register : EmuRegister) (d enable : ChipNetId) (n : NetId) (what : Loading)
          → register_at c chip i ≡ Some register → is_kept_register c.results chip i ≡ true → register.d ≡ Some d → register.enable ≡ Some enable
          → subject c.results chip register.q.place ≡ Some (Net n) → driver_loading c.design (driver c.design n.place) ≡ Some what
          → (net_value c.results.net x chip d.place ≡ subject_value c.design v w what.feed)
          × (net_value c.results.net x chip enable.place ≡ subject_value c.design v w what.enable)
      load_finds chip i j in_slot register d enable n what at kept has_d has_enable of loads =
          let one = one_driver c is chip register.q.place (Net n) of in
          let ended = register_ends_after c inside rules k there chip i register at kept in
          let marks = load_marks c k is fit (inside k) chip i register at d enable has_d has_enable one t j ended in_slot in
          let fits : loading_fits c.results chip d enable (Some what) ≡ true =
          sym
          (ap (λ o. register_pins_fit c.design c.results chip register.q o register.enable) has_d
          ∙ ap (λ o. register_pins_fit c.design c.results chip register.q (Some d) o) has_enable
          ∙ ap (λ o. loading_fits c.results chip d enable (loading_of c.design o)) of
          ∙ ap (loading_fits c.results chip d enable) loads)
          ∙ parts.registers chip i register at in (
            (of_subject c.design v w what.feed _ _ (subject c.results chip d.place) (left _ _ fits) (nets chip d.place)).after marks.0,
            (of_subject c.design v w what.enable _ _ (subject c.results chip enable.place) (right _ _ fits) (nets chip enable.place)).after marks.1,
          )

      load_sampled : (chip i j : ℕ) → slice_get (slot_actions c k t) j ≡ Some (action.Load (record { place = chip }) (record { place = i })) → LoadIsSampled c v w x chip i
      load_sampled chip i j in_slot register d enable n e f at kept has_d has_enable of by is_flop =
          let loads : driver_loading c.design (driver c.design n.place) ≡ Some (flop_loading e) = ap (driver_loading c.design) by ∙ ap (option_map (λ (f : Flop). flop_loading e)) is_flop in
          let finds = load_finds chip i j in_slot register d enable n (flop_loading e) at kept has_d has_enable of loads in (
            finds.0 ∙ ap (λ o. option_map_or (flop_next v w) o false) is_flop,
            finds.1 ∙ ap (λ o. option_map_or (flop_takes v w) o false) is_flop,
          )

      read_sampled : (chip i j : ℕ) → slice_get (slot_actions c k t) j ≡ Some (action.Load (record { place = chip }) (record { place = i })) → ReadIsSampled c v w x chip i
      read_sampled chip i j in_slot register d enable n m place bit port clock at kept has_d has_enable of by is_port has_clock =
          let what : Loading = record { feed = Old m place bit; enable = TakeRead m place } in
          let loads : driver_loading c.design (driver c.design n.place) ≡ Some what =
          ap (driver_loading c.design) by ∙ ap (option_and_then (read_loading m place bit)) is_port ∙ ap (option_map (λ (clock : Edge). what)) has_clock in
          let finds = load_finds chip i j in_slot register d enable n what at kept has_d has_enable of loads in (
            finds.0 ∙ ap (λ o. option_map_or (λ (port : ReadPort). addressed_bit v m.place port bit) o false) is_port,
            finds.1 ∙ ap (λ o. option_map_or (read_takes v w) o false) is_port,
          )

      -- ## Writes

      abbrev bears : ℕ → EmuWrite → Bool
      bears chip port =
          (net_mark c.design c.results (inside k) s chip port.enable.place).after
          && all_before (net_marks c.design c.results (inside k) s chip port.address)
          && all_before (net_marks c.design c.results (inside k) s chip port.feed)

      write_sampled : (chip m i j : ℕ) → slice_get (slot_actions c k t) j ≡ Some (action.Write (record { place = chip }) (record { place = m }) i) → WriteIsSampled c v w x chip m i
      write_sampled chip m i j in_slot of port original at in_chip in_design =
          let memory = write_port_at c chip m i port in_chip in
          let h : StandsForMemory c chip m memory.0 = stands_for_memory c parts chip m memory.0 memory.1 in
          let beside = write_beside c parts chip m memory.0 h i port memory.2 in
          let whole = (memory_ends_done c inside rules k there chip m memory.0 memory.1).0 in
          let counts : write_counts c.design c.results (inside k) s chip m i ≡ true = write_is_counted c k fit (inside k) chip m i t j whole in_slot in
          let marked : bears chip port ≡ true =
          sym (ap (λ o. option_map_or (bears chip) o false) in_chip) ∙ right (i == s.standing chip m) (option_map_or (bears chip) (write_port c.results.net chip m i) false) counts in
          let there : design_write c.design h.entry.of.place i ≡ Some beside.0 = ap (option_and_then (λ (memory : Memory). slice_get memory.writes i)) h.in_design ∙ beside.1 in
          let place : h.entry.of.place ≡ of = same_Some _ _ (sym (of_is c parts chip m memory.0 h) ∙ at) in
          let same : beside.0 ≡ original = same_Some _ _ (sym there ∙ ap (λ (z : ℕ). design_write c.design z i) place ∙ in_design) in (
            (of_subject c.design v w (TakeWrite h.entry.of i) _ _ (subject c.results chip port.enable.place) (left _ _ (left _ _ beside.2)) (nets chip port.enable.place)).after (left _ _ (left _ _ marked))
                ∙ ap (λ o. option_map_or (stores v w) o false) there ∙ ap (stores v w) same,
            before_values c.design v w (λ (n : NetId). n) beside.0.address _ _
                (inputs_true c.design v w c.results chip (net_mark c.design c.results (inside k) s chip) (net_value c.results.net x chip) (nets chip) port.address (map Net beside.0.address) (right _ _ (left _ _ beside.2)))
                (right _ _ (left _ _ marked))
                ∙ ap (λ (z : WritePort). values v z.address) same,
            before_values c.design v w (λ (n : NetId). n) beside.0.feed _ _
                (inputs_true c.design v w c.results chip (net_mark c.design c.results (inside k) s chip) (net_value c.results.net x chip) (nets chip) port.feed (map Net beside.0.feed) (right _ _ beside.2))
                (right _ _ marked)
                ∙ ap (λ (z : WritePort). values v z.feed) same,
          )

      action_sampled : (a : Action) (j : ℕ) → slice_get (slot_actions c k t) j ≡ Some a → ActionIsSampled c v w x a
      action_sampled (action.Load on register) j at =
          (load_sampled on.place register.place j at, read_sampled on.place register.place j at)
      action_sampled (action.Write on mem port) j at = write_sampled on.place mem.place port j at
      action_sampled (action.Input on register net) j at = tt
      action_sampled (action.Send wire net register) j at = tt
      action_sampled (action.Read on mem port) j at = tt

  -- each action of a slot takes sampled data, where the marks at the slot's start are true
  pub slot_sampled : (event : List PortBit) → EventFacts c.design (inside k) v event w
      → (t : ℕ) (x : State) → StateTrue c k t v w (marks_at c.design c.results c.board.wires (inside k) (frame_slots c.results k) t) x
      → (a : Action) → Contains (slot_actions c k t) a → ActionIsSampled c v w x a
  slot_sampled event facts t x fine a has =
      let at = at_contains (slot_actions c k t) a has in
      action_sampled t x
      (gates_keep_marks c.design c.results (inside k) v w event (marks_at c.design c.results c.board.wires (inside k) (frame_slots c.results k) t) x facts parts.gates parts.subjects fine.sources)
      a at.0 at.1
