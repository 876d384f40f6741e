-- Offered to the crates above: nets of registers and read ports, which no gate drives where each net has one driver,
-- and what comes to them.
use Rattle.std.proofs.Common.{◌≡◌, ℕ, zero, suc, ◌<◌, ◌≤◌, arith, Bool, true, List, length, map, refl, subst, ap, inl, inr}
use Rattle.std.specs.Prelude.{Option, Some, None, slice_get, unwrap_or, count_by, flat_map, zip, ◌⊎◌}
use Rattle.std.specs.Option.{option_map_or}
use Rattle.std.proofs.lemmas.Option.{none-some}
use Rattle.id_arena.specs.declared.keys.ChipNetId.{ChipNetId}
use Rattle.design_core.specs.declared.node.NodeId.{NodeId}
use Rattle.design_core.specs.declared.parts.Parts.{Parts}
use Rattle.emu_machine.specs.declared.netlist.Chip.{Chip}
use Rattle.emu_machine.specs.declared.netlist.EmuGate.{EmuGate}
use Rattle.emu_machine.specs.declared.netlist.EmuMemory.{EmuMemory}
use Rattle.emu_machine.specs.declared.netlist.EmuRead.{EmuRead}
use Rattle.emu_machine.specs.declared.netlist.EmuRegister.{EmuRegister}
use Rattle.emu_machine.specs.declared.map.ChipMap.{ChipMap}
use Rattle.emu_machine.specs.Building.{IsChip, IsReadOf, AreChips, IsBuilt}
use Rattle.emu_machine.specs.Results.{Results}
use Rattle.emu_machine.specs.Netlist.{no_chip, chip_at, is_chip_net, read_nets, net_drivers, gate_of, on_net, through_gates}
use Rattle.emu_machine.specs.Mapped.{chip_map, subject, is_kept, kept_by_read, kept_by_register}
use Rattle.emu_machine.specs.Marks.{MarkState, widened, net_mark}
use Rattle.facts.proofs.Counting.{counted, find_at, not_found}
use Rattle.facts.proofs.Lists.{Has, has_under}
use Rattle.facts.proofs.Places.{any_found, at_zip}
use Rattle.facts.proofs.Tests.{either, right, number_same, same_number}
use Rattle.mark_rule.specs.Gates.{gate_gives}
use Rattle.mark_rule.specs.Kept.{keeps_q, keeps_bits, keeps_ports, keeps_net}

-- ## What comes to a net that no gate drives

module _ {A : Type 0} (chip : Chip) (source : ℕ → A) (combine : EmuGate → List A → A) (n : ℕ) (free : gate_of chip n ≡ None) where
  within : (room : ℕ) → on_net chip source combine room n ≡ source n
  within zero = refl
  within (suc room) =
      ap (λ (o : Option EmuGate). option_map_or (λ gate. combine gate (map (λ (i : ChipNetId). on_net chip source combine room i.place) gate.inputs)) o (source n)) free

  -- just what stands there
  pub free_net : through_gates chip source combine n ≡ source n
  free_net = within (length chip.gates)

-- the marks of a net that no gate drives are those that it stores, widened
pub free_mark : (p : Parts) (r : Results) (inside : NodeId → Bool) (s : MarkState) (c n : ℕ) → gate_of (chip_at r.net c) n ≡ None
    → net_mark p r inside s c n ≡ widened inside (subject r c n) (s.on c n)
free_mark p r inside s c n free =
    free_net (chip_at r.net c) (λ k. widened inside (subject r c k) (s.on c k)) (gate_gives p r inside c) n free

-- ## Which nets no gate drives

-- a net of a read port, by the places of its memory, its port and its bit
pub record IsReadNet (chip : Chip) (net : ChipNetId) : Type 0 where
  pub mem : ℕ
  pub memory : EmuMemory
  pub at_memory : slice_get chip.memories mem ≡ Some memory
  pub place : ℕ
  pub port : EmuRead
  pub at_port : slice_get memory.reads place ≡ Some port
  pub bit : ℕ
  pub at_bit : slice_get port.bits bit ≡ Some net

abbrev bits_of : EmuMemory → List ChipNetId
bits_of memory = flat_map (λ (port : EmuRead). port.bits) memory.reads

read_listed : (chip : Chip) (net : ChipNetId) → IsReadNet chip net → Has (read_nets chip) net
read_listed chip net is =
    has_under bits_of chip.memories net
    (record {
      place = is.mem;
      item = is.memory;
      at = is.at_memory;
      has = has_under (λ (port : EmuRead). port.bits) is.memory.reads net
          (record { place = is.place; item = is.port; at = is.at_port; has = record { place = is.bit; at = is.at_bit } });
    })

module _ (chip : Chip) (formed : IsChip chip) (driven : (n : ℕ) → n < chip.nets → net_drivers chip n ≡ 1) where
  -- the Q of a register
  pub free_q : (k : ℕ) (register : EmuRegister) → slice_get chip.registers k ≡ Some register → gate_of chip register.q.place ≡ None
  free_q k register at =
      let q : ℕ = register.q.place in
      let one : net_drivers chip register.q.place ≡ 1 = driven register.q.place (formed.registers k register at).q in
      let some : 0 < count_by (λ (r : EmuRegister). is_chip_net register.q.place r.q) chip.registers =
      counted (λ (r : EmuRegister). is_chip_net register.q.place r.q) chip.registers k register at (same_number register.q.place register.q.place refl) in
      not_found (λ (g : EmuGate). is_chip_net register.q.place g.output) chip.gates (omega arith)

  -- a bit of a read port
  pub free_bit : (net : ChipNetId) → IsReadNet chip net → gate_of chip net.place ≡ None
  free_bit net is =
      let port : IsReadOf chip.nets is.memory is.port = (formed.memories is.mem is.memory is.at_memory).reads is.place is.port is.at_port in
      let one : net_drivers chip net.place ≡ 1 = driven net.place (port.bits is.bit net is.at_bit) in
      let listed : Has (read_nets chip) net = read_listed chip net is in
      let some : 0 < count_by (is_chip_net net.place) (read_nets chip) =
      counted (is_chip_net net.place) (read_nets chip) listed.place net listed.at (same_number net.place net.place refl) in
      not_found (λ (g : EmuGate). is_chip_net net.place g.output) chip.gates (omega arith)

  -- a net of the chip that no gate drives
  record IsFree (n : ℕ) : Type 0 where
    low : n < chip.nets
    free : gate_of chip n ≡ None

  kept_q : (entry : ChipMap) (n : ℕ) → kept_by_register chip entry n ≡ true → IsFree n
  kept_q entry n kept =
      let f = any_found (keeps_q n) (zip chip.registers entry.kept) kept in
      let e = at_zip chip.registers entry.kept f.0 f.1 f.2 in
      subst IsFree (number_same _ _ (right _ _ f.3)) (record { low = (formed.registers f.0 f.1.0 e.0).q; free = free_q f.0 f.1.0 e.0 })

  kept_bit : (entry : ChipMap) (n : ℕ) → kept_by_read chip entry n ≡ true → IsFree n
  kept_bit entry n kept =
      let f = any_found (keeps_ports n) (zip chip.memories entry.memories) kept in
      let e = at_zip chip.memories entry.memories f.0 f.1 f.2 in
      let g = any_found (keeps_bits n) (zip f.1.0.reads f.1.1.kept) f.3 in
      let d = at_zip f.1.0.reads f.1.1.kept g.0 g.1 g.2 in
      let h = any_found (is_chip_net n) g.1.0.bits (right _ _ g.3) in
      let is : IsReadNet chip h.1 = record { mem = f.0; memory = f.1.0; at_memory = e.0; place = g.0; port = g.1.0; at_port = d.0; bit = h.0; at_bit = h.2 } in
      subst IsFree (number_same _ _ h.3) (record { low = ((formed.memories f.0 f.1.0 e.0).reads g.0 g.1.0 d.0).bits h.0 h.1 h.2; free = free_bit h.1 is })

  kept_free : (entry : ChipMap) (n : ℕ) → keeps_net chip entry n ≡ true → IsFree n
  kept_free entry n kept = go (either (kept_by_register chip entry n) (kept_by_read chip entry n) kept)
    where
      go : (kept_by_register chip entry n ≡ true) ⊎ (kept_by_read chip entry n ≡ true) → IsFree n
      go (inl q) = kept_q entry n q
      go (inr bit) = kept_bit entry n bit

  -- a net that an entry of the map keeps
  pub free_kept_of : (entry : ChipMap) (n : ℕ) → keeps_net chip entry n ≡ true → gate_of chip n ≡ None
  free_kept_of entry n kept = (kept_free entry n kept).free

  -- it is a net of the chip
  pub kept_low_of : (entry : ChipMap) (n : ℕ) → keeps_net chip entry n ≡ true → n < chip.nets
  kept_low_of entry n kept = (kept_free entry n kept).low

  -- no gate drives a net that is not there
  pub free_far : (n : ℕ) → chip.nets ≤ n → gate_of chip n ≡ None
  free_far n far = go (gate_of chip n) refl
    where
      go : (o : Option EmuGate) → gate_of chip n ≡ o → gate_of chip n ≡ None
      go None e = e
      go (Some gate) e =
          let f = find_at (λ (g : EmuGate). is_chip_net n g.output) chip.gates gate e in
          let low : gate.output.place < chip.nets = (formed.gates f.0 gate f.1).output in
          let same : gate.output.place ≡ n = number_same gate.output.place n f.2 in
          absurd (omega arith)

-- ## The same in results

no_chip_formed : IsChip no_chip
no_chip_formed = record {
  gates = λ k gate at. absurd (none-some gate at);
  registers = λ k register at. absurd (none-some register at);
  memories = λ k memory at. absurd (none-some memory at);
  few_gates = omega arith;
  few_registers = omega arith;
  few_memories = omega arith;
  few_inputs = omega arith;
}

-- each chip of a netlist is formed as one, also where there is none
pub chip_formed : (chips : List Chip) → AreChips chips → (c : ℕ) → IsChip (chip_at chips c)
chip_formed chips are c = go (slice_get chips c) refl
  where
    go : (o : Option Chip) → slice_get chips c ≡ o → IsChip (unwrap_or o no_chip)
    go None e = no_chip_formed
    go (Some chip) e = are.each c chip e

module _ (r : Results) (built : IsBuilt r.net) (c : ℕ) where
  -- the Q of a register of a chip
  pub free_register : (k : ℕ) (register : EmuRegister) → slice_get (chip_at r.net c).registers k ≡ Some register → gate_of (chip_at r.net c) register.q.place ≡ None
  free_register = free_q (chip_at r.net c) (chip_formed r.net built.formed c) (built.netlist c)

  -- a bit of a read port of a chip
  pub free_read : (net : ChipNetId) → IsReadNet (chip_at r.net c) net → gate_of (chip_at r.net c) net.place ≡ None
  free_read = free_bit (chip_at r.net c) (chip_formed r.net built.formed c) (built.netlist c)

  -- what is kept
  pub free_kept : (n : ℕ) → is_kept r c n ≡ true → gate_of (chip_at r.net c) n ≡ None
  free_kept = free_kept_of (chip_at r.net c) (chip_formed r.net built.formed c) (built.netlist c) (chip_map r c)

  -- it is a net of the chip
  pub kept_low : (n : ℕ) → is_kept r c n ≡ true → n < (chip_at r.net c).nets
  kept_low = kept_low_of (chip_at r.net c) (chip_formed r.net built.formed c) (built.netlist c) (chip_map r c)
