-- Offered to the crates above: at the end of a frame the machine is loaded from the valuation after the event.
use Rattle.std.proofs.Common.{◌≡◌, ℕ, zero, suc, Bool, true, false, List, [], ◌∷◌, length, map, refl, subst, sym, ap, ◌∙◌, inl, inr}
use Rattle.std.specs.Prelude.{◌+◌, ◌&&◌, Some, None, slice_get, unwrap_or, option_and_then, take, zip}
use Rattle.std.specs.List.{list_any, enumerate_from}
use Rattle.std.specs.Option.{option_map_or}
use Rattle.std.proofs.Math.Seq.{take-length}
use Rattle.id_arena.specs.declared.keys.NetId.{NetId}
use Rattle.id_arena.specs.declared.keys.ChipNetId.{ChipNetId}
use Rattle.design_core.specs.declared.element.Memory.{Memory}
use Rattle.design_core.specs.declared.element.WritePort.{WritePort}
use Rattle.design_core.specs.declared.node.NodeId.{NodeId}
use Rattle.design_core.specs.declared.node.NodeId.TheVariants.{Write}
use Rattle.design_core.specs.declared.values.PortBit.{PortBit}
use Rattle.design_core.specs.Valuation.{Valuation, IsAddress}
use Rattle.design_core.specs.Operation.{op_value}
use Rattle.design_core.specs.Event.{written}
use Rattle.emu_machine.specs.declared.netlist.EmuGate.{EmuGate}
use Rattle.emu_machine.specs.declared.netlist.EmuMemory.{EmuMemory}
use Rattle.emu_machine.specs.declared.netlist.EmuRead.{EmuRead}
use Rattle.emu_machine.specs.declared.netlist.EmuRegister.{EmuRegister}
use Rattle.emu_machine.specs.declared.map.MemMap.{MemMap}
use Rattle.emu_machine.specs.declared.map.Subject.TheVariants.{Net}
use Rattle.emu_machine.specs.Netlist.{chip_at, is_chip_net, gate_of}
use Rattle.emu_machine.specs.State.{State, net_value, frame_slots, state_at, read_port}
use Rattle.emu_machine.specs.Mapped.{chip_map, subject, memory_of, kept_by_register, kept_by_read, is_kept, IsValueOf, IsLoaded}
use Rattle.emu_machine.specs.Marks.{net_mark, start_marks, marks_at, design_writes, writes_of}
use Rattle.emu_machine.specs.Origins.{keeps_read}
use Rattle.emu_machine.specs.declared.rule.Rule.{Rule}
use Rattle.emu_machine.specs.Acceptance.{Case, Holds, has_frame, end_marks, ends_after, is_kept_register, is_kept_read}
use Rattle.emu_machine.specs.Law.{IsCase}
use Rattle.marks_law.specs.Facts.{EventFacts}
use Rattle.marks_law.specs.Truth.{MarkHolds, IsTrueOf, NetsTrue}
use Rattle.facts.proofs.Tests.{left, right, either, number_same}
use Rattle.marks_law.proofs.Through.{gates_keep_marks}
use Rattle.marks_law.specs.Slots.{StateTrue, PartsFit, KeepsMarks}
use Rattle.facts.proofs.Places.{any_found, at_zip}
use Rattle.marks_law.proofs.Chips.{ReadAt, no_gate_register, no_gate_read, register_net_stands, kept_read_stands, subjects_stand, memory_stands, at_source}
use Rattle.agreement_law.proofs.Accepted.{gates_fit, registers_fit, mapped_memories_fit, register_ends_after, read_ends_after, memory_ends_done}

-- slots that keep true marks true do so one after the other
pub slots_keep : (c : Case) (frame : ℕ) (inside : NodeId → Bool) (v w : Valuation) (event : List PortBit) → EventFacts c.design inside v event w
    → ((slot : ℕ) → KeepsMarks c frame slot)
    → (x : State) → StateTrue c frame 0 v w (start_marks c.design c.results inside) x
    → (slot : ℕ)
    → StateTrue c frame slot v w
    (marks_at c.design c.results c.board.wires inside (frame_slots c.results frame) slot)
    (state_at c.results.net c.board.wires (frame_slots c.results frame) x slot)
slots_keep c k inside v w event facts keep x start zero = start
slots_keep c k inside v w event facts keep x start (suc t) =
    keep t inside v w event
    (marks_at c.design c.results c.board.wires inside (frame_slots c.results k) t)
    (state_at c.results.net c.board.wires (frame_slots c.results k) x t)
    facts
    (slots_keep c k inside v w event facts keep x start t)

writes_counted : (n : ℕ) (ports : List WritePort) (of : ℕ) → length (map (λ (k, port). Write (record { place = of }) k) (enumerate_from n ports)) ≡ length ports
writes_counted n [] of = refl
writes_counted n (port ∷ ports) of = ap suc (writes_counted (n + 1) ports of)

module _ (c : Case) (is : IsCase c) (inside : ℕ → NodeId → Bool) (rules : (rule : Rule) → Holds c inside rule) where
  pub parts_fit : PartsFit c
  parts_fit =
      record {
        gates = gates_fit c inside rules;
        registers = registers_fit c inside rules;
        memories = mapped_memories_fit c inside rules;
        subjects = subjects_stand c is (gates_fit c inside rules) (registers_fit c inside rules) (mapped_memories_fit c inside rules);
      }

  module _ (frame : ℕ) (there : has_frame c frame ≡ true) (v w : Valuation) (event : List PortBit) (facts : EventFacts c.design (inside frame) v event w)
      (y : State) (fine : StateTrue c frame (length (frame_slots c.results frame)) v w (end_marks c inside frame) y) where
    nets : NetsTrue c.design c.results (inside frame) v w (end_marks c inside frame) y
    nets = gates_keep_marks c.design c.results (inside frame) v w event (end_marks c inside frame) y facts parts_fit.gates parts_fit.subjects fine.sources

    -- a net that ends with "after" shows its value after the event
    after_value : (chip : ℕ) (n : ChipNetId) (m : NetId) → subject c.results chip n.place ≡ Some (Net m) → ends_after c inside frame chip n ≡ true → net_value c.results.net y chip n.place ≡ w.net m.place
    after_value chip n m e ended =
        let t : MarkHolds c.design v w (Net m) (net_mark c.design c.results (inside frame) (end_marks c inside frame) chip n.place) (net_value c.results.net y chip n.place) =
        subst (λ o. IsTrueOf c.design v w o (net_mark c.design c.results (inside frame) (end_marks c inside frame) chip n.place) (net_value c.results.net y chip n.place)) e (nets chip n.place) in
        t.after ended

    held_value : (chip n : ℕ) (at : ChipNetId) (m : NetId) → at.place ≡ n → subject c.results chip at.place ≡ Some (Net m) → ends_after c inside frame chip at ≡ true → gate_of (chip_at c.results.net chip) at.place ≡ None
        → IsValueOf w (subject c.results chip n) (y.held chip n)
    held_value chip n at m same e ended no_gate =
        let shown : net_value c.results.net y chip at.place ≡ y.held chip at.place = at_source (chip_at c.results.net chip) (y.held chip) (λ (gate : EmuGate) (bits : List Bool). op_value gate.op bits) (length (chip_at c.results.net chip).gates) at.place no_gate in
        let value : y.held chip at.place ≡ w.net m.place = sym shown ∙ after_value chip at m e ended in
        subst (λ (i : ℕ). IsValueOf w (subject c.results chip i) (y.held chip i)) same
        (subst (λ o. IsValueOf w o (y.held chip at.place)) (sym e) value)

    held_register : (chip n : ℕ) → kept_by_register (chip_at c.results.net chip) (chip_map c.results chip) n ≡ true → IsValueOf w (subject c.results chip n) (y.held chip n)
    held_register chip n h =
        let f = any_found (λ (register, kept). kept && is_chip_net n register.q) (zip (chip_at c.results.net chip).registers (chip_map c.results chip).kept) h in
        let both = at_zip (chip_at c.results.net chip).registers (chip_map c.results chip).kept f.0 f.1 f.2 in
        let register : EmuRegister = f.1.0 in
        let kept : is_kept_register c.results chip f.0 ≡ true = ap (λ o. unwrap_or o false) both.1 ∙ left _ _ f.3 in
        let stands = register_net_stands c is (gates_fit c inside rules) (registers_fit c inside rules) (mapped_memories_fit c inside rules) chip f.0 register both.0 in
        held_value chip n register.q stands.0 (number_same _ _ (right _ _ f.3)) stands.1
        (register_ends_after c inside rules frame there chip f.0 register both.0 kept)
        (no_gate_register c is chip register.q.place (Net stands.0) stands.1 f.0 register both.0 refl)

    held_read : (chip n : ℕ) → kept_by_read (chip_at c.results.net chip) (chip_map c.results chip) n ≡ true → IsValueOf w (subject c.results chip n) (y.held chip n)
    held_read chip n h =
        let f = any_found (λ (memory, of). list_any (λ (port, kept). kept && list_any (is_chip_net n) port.bits) (zip memory.reads of.kept)) (zip (chip_at c.results.net chip).memories (chip_map c.results chip).memories) h in
        let both = at_zip (chip_at c.results.net chip).memories (chip_map c.results chip).memories f.0 f.1 f.2 in
        let memory : EmuMemory = f.1.0 in
        let of : MemMap = f.1.1 in
        let g = any_found (λ (port, kept). kept && list_any (is_chip_net n) port.bits) (zip memory.reads of.kept) f.3 in
        let ports = at_zip memory.reads of.kept g.0 g.1 g.2 in
        let port : EmuRead = g.1.0 in
        let bit = any_found (is_chip_net n) port.bits (right _ _ g.3) in
        let at : ReadAt (chip_at c.results.net chip) bit.1.place = record { mem = f.0; memory = memory; place = g.0; port = port; bit = bit.0; net = bit.1; at_memory = both.0; at_port = ports.0; at_bit = bit.2; same = refl } in
        let kept : is_kept_read c.results chip f.0 g.0 ≡ true =
        ap (λ o. option_map_or (λ (entry : MemMap). keeps_read entry g.0) o false) both.1 ∙ ap (λ o. unwrap_or o false) ports.1 ∙ left _ _ g.3 in
        let named : read_port c.results.net chip f.0 g.0 ≡ Some port = ap (option_and_then (λ (memory : EmuMemory). slice_get memory.reads g.0)) both.0 ∙ ports.0 in
        let stands = kept_read_stands c is (gates_fit c inside rules) (registers_fit c inside rules) (mapped_memories_fit c inside rules) chip bit.1.place at kept in
        held_value chip n bit.1 stands.0 (number_same _ _ bit.3) stands.1
        (read_ends_after c inside rules frame there chip f.0 g.0 port named kept bit.0 bit.1 bit.2)
        (no_gate_read c is chip bit.1.place (Net stands.0) stands.1 at)

    held_is : (chip n : ℕ) → is_kept c.results chip n ≡ true → IsValueOf w (subject c.results chip n) (y.held chip n)
    held_is chip n h =
        elim (either _ _ h) [ inl by_register ↦ held_register chip n by_register | inr by_read ↦ held_read chip n by_read ]

    words_are : (chip m of a : ℕ) → memory_of c.results chip m ≡ Some of → IsAddress c.design of a → y.word chip m a ≡ w.word of a
    words_are chip m of a at address =
        let memory = memory_stands c.results is.mapped chip m of at in
        let done = memory_ends_done c inside rules frame there chip m memory.0 memory.1 in
        let original : Memory = address.0 in
        let nodes : writes_of c.design c.results chip m ≡ map (λ (k, port). Write (record { place = of }) k) (enumerate_from 0 original.writes) =
        ap (λ o. option_map_or (design_writes c.design) o []) at ∙ ap (λ o. option_map_or (λ (memory : Memory). map (λ (k, port). Write (record { place = of }) k) (enumerate_from 0 memory.writes)) o []) address.1 in
        let all : take ((end_marks c inside frame).standing chip m) original.writes ≡ original.writes =
        ap (λ (n : ℕ). take n original.writes) (done.1 ∙ ap length nodes ∙ writes_counted 0 original.writes of) ∙ take-length original.writes in
        fine.words chip m of a original at address.1 address done.0
        ∙ ap (λ ports. written v w ports a (v.word of a)) all
        ∙ sym (facts.follows.words of a original address.1 address)

    pub end_loaded : IsLoaded c.design c.results w y
    end_loaded =
        record {
          state = record { held = held_is; words = words_are };
          outside = λ n low e. fine.outside n e;
        }
