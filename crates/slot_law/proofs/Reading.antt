-- Offered to the crates above: the action `read`, which gives the nets of a read port the bits of a word.
use Rattle.std.proofs.Common.{◌≡◌, ℕ, ◌+◌, ◌≤◌, arith, Bool, true, false, List, length, map, refl, subst, sym, ap, ◌∙◌, inr, if◌then◌else◌}
use Rattle.std.specs.Prelude.{◌==◌, Option, Some, None, slice_get, option_map, option_and_then, position, take, flat_map}
use Rattle.std.specs.List.{enumerate_from}
use Rattle.std.specs.Option.{option_map_or}
use Rattle.std.proofs.lemmas.List.{take_all}
use Rattle.id_arena.specs.declared.keys.NetId.{NetId}
use Rattle.id_arena.specs.declared.keys.ChipId.{ChipId}
use Rattle.id_arena.specs.declared.keys.ChipNetId.{ChipNetId}
use Rattle.id_arena.specs.declared.keys.MemId.{MemId}
use Rattle.design_core.specs.declared.element.Edge.{Edge}
use Rattle.design_core.specs.declared.element.Memory.{Memory}
use Rattle.design_core.specs.declared.element.ReadPort.{ReadPort}
use Rattle.design_core.specs.declared.node.NodeId.{NodeId}
use Rattle.design_core.specs.declared.values.PortBit.{PortBit}
use Rattle.design_core.specs.Operation.{number, bit_of}
use Rattle.design_core.specs.Valuation.{Valuation, shown_number, addressed_bit, IsAddress}
use Rattle.design_core.specs.Settled.{IsReadBit}
use Rattle.design_core.specs.Event.{written}
use Rattle.emu_machine.specs.declared.netlist.EmuMemory.{EmuMemory}
use Rattle.emu_machine.specs.declared.netlist.EmuRead.{EmuRead}
use Rattle.emu_machine.specs.declared.map.Subject.{Subject}
use Rattle.emu_machine.specs.declared.map.Subject.TheVariants.{Net, Old}
use Rattle.emu_machine.specs.declared.schedule.Action.{Action}
use Rattle.emu_machine.specs.declared.schedule.Action.TheVariants as action
use Rattle.emu_machine.specs.Netlist.{chip_at, is_chip_net}
use Rattle.emu_machine.specs.State.{State, net_value, net_values, net_number, read_port, action_value}
use Rattle.emu_machine.specs.Mapped.{subject, design_read}
use Rattle.emu_machine.specs.Marks.{Mark, MarkState, all_before, net_mark, net_marks, writes_of, clock_of_read, is_untouched, read_mark, action_mark}
use Rattle.emu_machine.specs.Origins.{have_subjects, read_subjects}
use Rattle.emu_machine.specs.Acceptance.{Case}
use Rattle.emu_machine.specs.Law.{IsCase}
use Rattle.marks_law.specs.Facts.{EventFacts}
use Rattle.marks_law.specs.Truth.{MarkHolds, IsTrueOf, NetsTrue}
use Rattle.facts.proofs.Counting.{positioned}
use Rattle.facts.proofs.Tests.{left, right, number_same, not_true}
use Rattle.marks_law.proofs.Inputs.{AreTrue, inputs_true, before_values, after_values}
use Rattle.facts.proofs.Lists.{Has, has_under, numbered}
use Rattle.facts.proofs.Places.{at_map}
use Rattle.history_law.proofs.Afterwards.{address_bound}
use Rattle.marks_law.specs.Slots.{StateTrue, PartsFit}
use Rattle.marks_law.proofs.Chips.{have_subjects_at}
use Rattle.slot_law.proofs.Targets.{BitAt, GivesRegister, GivesNet}
use Rattle.slot_law.proofs.Kept.{IsGiven, nothing, fresh}
use Rattle.slot_law.proofs.Memories.{StandsForMemory, stands_for_memory, of_is, count_is, clock_is, read_beside, read_port_at}

-- a net of a read port is one that read ports drive
pub bit_at : (c : Case) (chip m k b n : ℕ) (memory : EmuMemory) (port : EmuRead) (bit : ChipNetId) → slice_get (chip_at c.results.net chip).memories m ≡ Some memory
    → slice_get memory.reads k ≡ Some port → slice_get port.bits b ≡ Some bit → bit.place ≡ n → BitAt (chip_at c.results.net chip) n
bit_at c chip m k b n memory port bit at in_reads in_bits is =
    let in_port : Has port.bits bit = record { place = b; at = in_bits } in
    let in_memory : Has (flat_map (λ (port : EmuRead). port.bits) memory.reads) bit =
    has_under (λ (port : EmuRead). port.bits) memory.reads bit (record { place = k; item = port; at = in_reads; has = in_port }) in
    record {
      bit = bit;
      has = has_under (λ (memory : EmuMemory). flat_map (λ (port : EmuRead). port.bits) memory.reads) (chip_at c.results.net chip).memories bit
          (record { place = m; item = memory; at = at; has = in_memory });
      is = is;
    }

module _ (c : Case) (is : IsCase c) (parts : PartsFit c) (inside : NodeId → Bool) (v w : Valuation) (event : List PortBit)
    (facts : EventFacts c.design inside v event w) (frame t : ℕ) (s : MarkState) (x : State)
    (old : StateTrue c frame t v w s x) (nets : NetsTrue c.design c.results inside v w s x) (chip m : ℕ) where
  -- the mark that a read of a port gives, by its clock
  abbrev port_mark : Option Edge → EmuRead → Mark
  port_mark clock q =
      read_mark s clock (length (writes_of c.design c.results chip m)) chip m (net_marks c.design c.results inside s chip q.address)

  -- the value that it gives to a bit
  abbrev port_value : EmuRead → ℕ → Bool
  port_value q b = bit_of (x.word chip m (net_number c.results.net x chip q.address)) b

  module _ (memory : EmuMemory) (h : StandsForMemory c chip m memory) (k b : ℕ) (q : EmuRead) (port : ReadPort)
      (in_reads : slice_get h.design.reads k ≡ Some port)
      (address : AreTrue c.design v w (map Net port.address) (net_marks c.design c.results inside s chip q.address) (net_values c.results.net x chip q.address)) where
    -- what an address shows is an address of the memory
    is_address : (u : Valuation) → IsAddress c.design h.entry.of.place (shown_number u port.address)
    is_address u = (h.design, h.in_design, address_bound c.design u h.entry.of.place k h.design port is.design h.in_design in_reads)

    -- where the address is that from before and no write has touched the memory, the word is that from before
    read_old : all_before (net_marks c.design c.results inside s chip q.address) ≡ true → is_untouched s chip m ≡ true
        → port_value q b ≡ addressed_bit v h.entry.of.place port b
    read_old a untouched =
        ap (λ bs. bit_of (x.word chip m (number bs)) b) (before_values c.design v w (λ (n : NetId). n) port.address _ _ address a)
        ∙ ap (λ word. bit_of word b)
        (old.untouched chip m h.entry.of.place (shown_number v port.address) (of_is c parts chip m memory h) (is_address v) (not_true (s.wrote chip m) untouched))

    -- with all writes done the standing tells of all write ports
    all_done : (s.standing chip m == length (writes_of c.design c.results chip m)) ≡ true → take (s.standing chip m) h.design.writes ≡ h.design.writes
    all_done e =
        let many : s.standing chip m ≡ length (writes_of c.design c.results chip m) = number_same _ _ e in
        let count : length (writes_of c.design c.results chip m) ≡ length h.design.writes = count_is c parts chip m memory h in
        let enough : length h.design.writes ≤ s.standing chip m = omega arith in
        take_all (s.standing chip m) h.design.writes enough

    -- where the address is that from after and all writes are done, the word is that from after
    read_new : (port_mark None q).after ≡ true → port_value q b ≡ addressed_bit w h.entry.of.place port b
    read_new a =
        ap (λ bs. bit_of (x.word chip m (number bs)) b) (after_values c.design v w (λ (n : NetId). n) port.address _ _ address (left _ _ a))
        ∙ ap (λ word. bit_of word b)
        (old.words chip m h.entry.of.place (shown_number w port.address) h.design (of_is c parts chip m memory h) h.in_design (is_address w) (not_true (s.broken chip m) (left _ _ (right _ _ a)))
        ∙ ap (λ ports. written v w ports (shown_number w port.address) (v.word h.entry.of.place (shown_number w port.address))) (all_done (right _ _ (right _ _ a)))
        ∙ sym (facts.follows.words h.entry.of.place (shown_number w port.address) h.design h.in_design (is_address w)))

    module _ (bit : ChipNetId) (in_port : slice_get q.bits b ≡ Some bit) (fits : have_subjects c.results chip q.bits (read_subjects h.entry.of k port) ≡ true) where
      -- a bit of a read port without a clock stands for the design's bit at its place
      unclocked : port.clock ≡ None → IsTrueOf c.design v w (subject c.results chip bit.place) (port_mark None q) (port_value q b)
      unclocked e =
          let subjects : read_subjects h.entry.of k port ≡ map Net port.bits =
          ap (λ o. option_map_or (λ (clock : Edge). map (λ (e : ℕ × NetId). Old h.entry.of k e.0) (enumerate_from 0 port.bits)) o (map Net port.bits)) e in
          let of = have_subjects_at c.results chip q.bits (read_subjects h.entry.of k port) b bit fits in_port in
          let net = at_map Net port.bits b of.0 (ap (λ (whats : List Subject). slice_get whats b) (sym subjects) ∙ of.1) in
          let is_bit : IsReadBit c.design h.entry.of.place k b port net.0 = record { memory = h.design; is_memory = h.in_design; is_port = in_reads; is_bit = net.1 } in
          let truth : MarkHolds c.design v w (Net net.0) (port_mark None q) (port_value q b) =
          record {
            before = λ a. read_old (left _ _ a) (right _ _ a) ∙ sym (facts.settled.reads h.entry.of.place k b port net.0 is_bit e);
            after = λ a. read_new a ∙ sym (facts.stays_settled.reads h.entry.of.place k b port net.0 is_bit e);
          } in
          subst (λ o. IsTrueOf c.design v w o (port_mark None q) (port_value q b)) (sym (of.2 ∙ ap Some net.2)) truth

      -- a bit of one with a clock stands for the bit of the word that the design's port takes
      clocked : (clock : Edge) → port.clock ≡ Some clock → IsTrueOf c.design v w (subject c.results chip bit.place) (port_mark (Some clock) q) (port_value q b)
      clocked clock e =
          let subjects : read_subjects h.entry.of k port ≡ map (λ (e : ℕ × NetId). Old h.entry.of k e.0) (enumerate_from 0 port.bits) =
          ap (λ o. option_map_or (λ (clock : Edge). map (λ (e : ℕ × NetId). Old h.entry.of k e.0) (enumerate_from 0 port.bits)) o (map Net port.bits)) e in
          let of = have_subjects_at c.results chip q.bits (read_subjects h.entry.of k port) b bit fits in_port in
          let entry = at_map (λ (e : ℕ × NetId). Old h.entry.of k e.0) (enumerate_from 0 port.bits) b of.0 (ap (λ (whats : List Subject). slice_get whats b) (sym subjects) ∙ of.1) in
          let count : entry.0.0 ≡ 0 + b = (numbered port.bits 0 b entry.0 entry.1).number in
          let place : entry.0.0 ≡ b = omega arith in
          let in_design : design_read c.design h.entry.of.place k ≡ Some port = ap (option_and_then (λ (memory : Memory). slice_get memory.reads k)) h.in_design ∙ in_reads in
          let truth : MarkHolds c.design v w (Old h.entry.of k b) (port_mark (Some clock) q) (port_value q b) =
          record {
            before = λ a. tt;
            after = λ a. read_old (left _ _ a) (right _ _ a) ∙ sym (ap (λ o. option_map_or (λ (port : ReadPort). addressed_bit v h.entry.of.place port b) o false) in_design);
          } in
          subst (λ o. IsTrueOf c.design v w o (port_mark (Some clock) q) (port_value q b))
          (sym (of.2 ∙ ap Some entry.2 ∙ ap (λ (i : ℕ). Some (Old h.entry.of k i)) place)) truth

      by_clock : (o : Option Edge) → port.clock ≡ o → IsTrueOf c.design v w (subject c.results chip bit.place) (port_mark o q) (port_value q b)
      by_clock None e = unclocked e
      by_clock (Some clock) e = clocked clock e

  -- a bit of a read port of the chip
  bit_true : (k b n : ℕ) (q : EmuRead) → read_port c.results.net chip m k ≡ Some q → position (is_chip_net n) q.bits ≡ Some b
      → BitAt (chip_at c.results.net chip) n × IsTrueOf c.design v w (subject c.results chip n) (port_mark (clock_of_read c.design c.results chip m k) q) (port_value q b)
  bit_true k b n q at in_bits =
      let there = read_port_at c chip m k q at in
      let h : StandsForMemory c chip m there.0 = stands_for_memory c parts chip m there.0 there.1 in
      let port = read_beside c parts chip m there.0 h k q there.2 in
      let bit = positioned (is_chip_net n) q.bits b in_bits in
      let same : bit.0.place ≡ n = number_same _ _ bit.2 in
      let address : AreTrue c.design v w (map Net port.0.address) (net_marks c.design c.results inside s chip q.address) (net_values c.results.net x chip q.address) =
      inputs_true c.design v w c.results chip (net_mark c.design c.results inside s chip) (net_value c.results.net x chip) (nets chip) q.address (map Net port.0.address) (left _ _ (left _ _ port.2)) in
      let truth : IsTrueOf c.design v w (subject c.results chip bit.0.place) (port_mark port.0.clock q) (port_value q b) =
      by_clock there.0 h k b q port.0 port.1 address bit.0 bit.1 (right _ _ (left _ _ port.2)) port.0.clock refl in
      let clock : port.0.clock ≡ clock_of_read c.design c.results chip m k = sym (clock_is c parts chip m there.0 h k port.0 port.1) in (
        bit_at c chip m k b n there.0 q bit.0 there.1 there.2 bit.1 same,
        subst (λ (i : ℕ). IsTrueOf c.design v w (subject c.results chip i) (port_mark (clock_of_read c.design c.results chip m k) q) (port_value q b)) same
            (subst (λ (o : Option Edge). IsTrueOf c.design v w (subject c.results chip bit.0.place) (port_mark o q) (port_value q b)) clock truth),
      )

  module _ (n : ℕ) (a : Action) where
    -- what an action gives to the net
    abbrev Given : Option Mark → Option Bool → Type 0
    Given = IsGiven c.design v w (subject c.results chip n) (x.held chip n) (GivesRegister c chip n a) (GivesNet c chip n a)

    -- the mark that a read of a port of this number gives
    abbrev mark_at : ℕ → EmuRead → Mark
    mark_at k q = port_mark (clock_of_read c.design c.results chip m k) q

    -- by whether the net is a bit of the port
    by_bit : (k : ℕ) (q : EmuRead) → read_port c.results.net chip m k ≡ Some q → (o : Option ℕ) → position (is_chip_net n) q.bits ≡ o
        → Given (option_map (λ b. mark_at k q) o) (option_map (port_value q) o)
    by_bit k q at None e = nothing
    by_bit k q at (Some b) e = let t = bit_true k b n q at e in fresh (mark_at k q) (port_value q b) (inr t.0) t.1

    -- by whether the port is there
    by_port : (k : ℕ) (o : Option EmuRead) → read_port c.results.net chip m k ≡ o
        → Given (option_and_then (λ q. option_map (λ b. mark_at k q) (position (is_chip_net n) q.bits)) o)
        (option_and_then (λ q. option_map (port_value q) (position (is_chip_net n) q.bits)) o)
    by_port k None at = nothing
    by_port k (Some q) at = by_bit k q at (position (is_chip_net n) q.bits) refl

    -- by whether the memory is on the chip of the net
    by_chip : (k : ℕ) (here : Bool)
        → Given (if here then option_and_then (λ q. option_map (λ b. mark_at k q) (position (is_chip_net n) q.bits)) (read_port c.results.net chip m k) else None)
        (if here then option_and_then (λ q. option_map (port_value q) (position (is_chip_net n) q.bits)) (read_port c.results.net chip m k) else None)
    by_chip k false = nothing
    by_chip k true = by_port k (read_port c.results.net chip m k) refl

-- what a `read` gives a net is true
pub given_read : (c : Case) (is : IsCase c) (parts : PartsFit c) (inside : NodeId → Bool) (v w : Valuation) (event : List PortBit)
    (facts : EventFacts c.design inside v event w) (frame t : ℕ) (s : MarkState) (x : State)
    (old : StateTrue c frame t v w s x) (nets : NetsTrue c.design c.results inside v w s x)
    (chip n : ℕ) (on : ChipId) (mem : MemId) (port : ℕ)
    → IsGiven c.design v w (subject c.results chip n) (x.held chip n) (GivesRegister c chip n (action.Read on mem port)) (GivesNet c chip n (action.Read on mem port))
    (action_mark c.design c.results c.board.wires inside s (action.Read on mem port) chip n)
    (action_value c.results.net c.board.wires x (action.Read on mem port) chip n)
given_read c is parts inside v w event facts frame t s x old nets chip n on mem port =
    by_chip c is parts inside v w event facts frame t s x old nets chip mem.place n (action.Read on mem port) port (on.place == chip)
