-- What is kept stands for nets of the design, and memories of chips have addresses of their originals, where rule
-- A7 holds.
use Rattle.std.proofs.Common.{◌≡◌, ◌<◌, ◌^◌, ℕ, Bool, true, length, sym, ap, subst, ◌∙◌, arith}
use Rattle.std.specs.Prelude.{Some, slice_get, get_or, option_map, unwrap_or}
use Rattle.std.proofs.lemmas.Option.{slice_get-get_or}
use Rattle.design_core.specs.declared.node.NodeId.{NodeId}
use Rattle.design_core.specs.Valuation.{IsAddress}
use Rattle.emu_machine.specs.declared.netlist.EmuGate.{EmuGate}
use Rattle.emu_machine.specs.declared.netlist.EmuMemory.{EmuMemory}
use Rattle.emu_machine.specs.declared.netlist.EmuRegister.{EmuRegister}
use Rattle.emu_machine.specs.declared.map.ChipMap.{ChipMap}
use Rattle.emu_machine.specs.declared.map.MemMap.{MemMap}
use Rattle.emu_machine.specs.declared.place.Place.TheVariants as place
use Rattle.emu_machine.specs.declared.rule.Rule.TheVariants.{A7}
use Rattle.emu_machine.specs.Acceptance.{Case, Holds, fails_test, mapped_memory_fits, register_at}
use Rattle.emu_machine.specs.Building.{IsBuilt}
use Rattle.emu_machine.specs.Law.{IsCase}
use Rattle.emu_machine.specs.Mapped.{chip_map, is_kept, memory_of, no_chip_map, subject}
use Rattle.emu_machine.specs.Netlist.{chip_at}
use Rattle.emu_machine.specs.Origins.{gate_fits, register_fits}
use Rattle.facts.proofs.Places.{at_same_place}
use Rattle.facts.proofs.Tests.{must}
use Rattle.cycle_sim.specs.Loading.{CanLoad, IsDesignNet, MemoryLoads}
use Rattle.cycle_sim.proofs.Chips.{chip_here}
use Rattle.cycle_sim.proofs.JudgedResults.{judged_can_load}
use Rattle.cycle_sim.proofs.Loads.{kept_net, memories_load}
use Rattle.cycle_sim.proofs.Ports.{memory_low}
use Rattle.marks_law.proofs.Chips.{subjects_stand}

-- the original of a memory of a chip, which has all its addresses
pub record HasOriginal (c : Case) (k m : ℕ) (memory : EmuMemory) : Type 0 where
  pub of : ℕ
  pub is : memory_of c.results k m ≡ Some of
  pub loads : MemoryLoads c.design memory of

module _ (c : Case) (inside : ℕ → NodeId → Bool) (is : IsCase c) (holds : Holds c inside A7) where
  gates_fit : (k j : ℕ) (gate : EmuGate) → slice_get (chip_at c.results.net k).gates j ≡ Some gate → gate_fits c.design c.results k gate ≡ true
  gates_fit k j gate at =
      must (gate_fits c.design c.results k gate) (λ wrong.
      holds (place.Gate (record { place = k }) j) (subst (fails_test (gate_fits c.design c.results k)) (sym at) wrong))

  registers_fit : (k j : ℕ) (register : EmuRegister) → register_at c k j ≡ Some register → register_fits c.design c.results k register ≡ true
  registers_fit k j register at =
      must (register_fits c.design c.results k register) (λ wrong.
      holds (place.Register (record { place = k }) (record { place = j })) (subst (fails_test (register_fits c.design c.results k)) (sym at) wrong))

  memories_fit : (k m : ℕ) (memory : EmuMemory) → slice_get (chip_at c.results.net k).memories m ≡ Some memory → mapped_memory_fits c k m memory ≡ true
  memories_fit k m memory at =
      must (mapped_memory_fits c k m memory) (λ wrong.
      holds (place.Memory (record { place = k }) (record { place = m })) (subst (fails_test (mapped_memory_fits c k m)) (sym at) wrong))

  -- what is kept stands for a net of the design
  pub kept_subject : (k n : ℕ) → is_kept c.results k n ≡ true → IsDesignNet c.design (subject c.results k n)
  kept_subject k n kept =
      let net = kept_net c.design c.results (judged_can_load c inside holds) k n kept in
      subst (IsDesignNet c.design) (sym net.1) (subjects_stand c is gates_fit registers_fit memories_fit k n net.0 net.1)

  -- a memory of a chip has an original, whose addresses are its own
  pub original : IsBuilt c.results.net → (k m : ℕ) (memory : EmuMemory) → slice_get (chip_at c.results.net k).memories m ≡ Some memory → HasOriginal c k m memory
  original built k m memory at =
      let low : k < length c.results.net = memory_low c.results k m memory at in
      let here : slice_get c.results.net k ≡ Some (chip_at c.results.net k) = chip_here c.results.net k low in
      let within : k < length c.results.map.chips = omega (arith, is.mapped.count, low) in
      let got : slice_get c.results.map.chips k ≡ Some (get_or c.results.map.chips k no_chip_map) = slice_get-get_or c.results.map.chips k no_chip_map within in
      let entry : slice_get c.results.map.chips k ≡ Some (chip_map c.results k) = entry_is (get_or c.results.map.chips k no_chip_map) got in
      let of : (of : MemMap) × (slice_get (chip_map c.results k).memories m ≡ Some of) =
      at_same_place (chip_at c.results.net k).memories (chip_map c.results k).memories m memory
      (sym (is.mapped.chips k (chip_at c.results.net k) (chip_map c.results k) here entry).memories) at in
      record {
        of = of.0.of.place;
        is = ap (λ o. option_map (λ (entry : MemMap). entry.of.place) o) of.1;
        loads = memories_load c.design c.results (judged_can_load c inside holds) built k (chip_at c.results.net k) (chip_map c.results k) here entry m memory of.0 at of.1;
      }
    where
      entry_is : (e : ChipMap) → slice_get c.results.map.chips k ≡ Some e → slice_get c.results.map.chips k ≡ Some (chip_map c.results k)
      entry_is e at = at ∙ ap Some (sym (ap (λ o. unwrap_or o no_chip_map) at))
