-- Offered to the crates above: a memory of a chip and the memory of the design that it stands for, port by
-- port.
use Rattle.std.proofs.Common.{◌≡◌, ℕ, true, false, [], length, refl, ap, ◌∙◌}
use Rattle.std.specs.Prelude.{Option, Some, None, slice_get, option_map, option_and_then, zip}
use Rattle.std.specs.List.{enumerate_from}
use Rattle.std.specs.Option.{option_map_or}
use Rattle.std.proofs.lemmas.List.{length-map}
use Rattle.std.proofs.lemmas.List.FromFn.{length-enumerate_from}
use Rattle.std.proofs.lemmas.Option.{none-some}
use Rattle.design_core.specs.declared.element.Memory.{Memory}
use Rattle.design_core.specs.declared.element.ReadPort.{ReadPort}
use Rattle.design_core.specs.declared.element.WritePort.{WritePort}
use Rattle.design_core.specs.declared.node.NodeId.TheVariants.{Write}
use Rattle.design_core.specs.Dependency.{write_nodes}
use Rattle.emu_machine.specs.declared.netlist.EmuMemory.{EmuMemory}
use Rattle.emu_machine.specs.declared.netlist.EmuRead.{EmuRead}
use Rattle.emu_machine.specs.declared.netlist.EmuWrite.{EmuWrite}
use Rattle.emu_machine.specs.declared.map.MemMap.{MemMap}
use Rattle.emu_machine.specs.Netlist.{chip_at}
use Rattle.emu_machine.specs.State.{read_port, write_port}
use Rattle.emu_machine.specs.Mapped.{chip_map, memory_of, design_read}
use Rattle.emu_machine.specs.Marks.{design_writes, writes_of, clock_of_read}
use Rattle.emu_machine.specs.Origins.{write_fits, read_fits, memory_ports_fit, memory_fits}
use Rattle.emu_machine.specs.Acceptance.{Case}
use Rattle.facts.proofs.Tests.{no, left, right, number_same}
use Rattle.marks_law.specs.Slots.{PartsFit}
use Rattle.facts.proofs.Places.{all_at, zip_at, at_same_place}
use Rattle.marks_law.proofs.FrameActions.{at_own_number}

-- ## The memory that a memory stands for

-- the entry of a chip's memory in the map, and the design's memory that it names, whose ports it has
pub record StandsForMemory (c : Case) (chip m : ℕ) (memory : EmuMemory) : Type 0 where
  pub entry : MemMap
  pub design : Memory
  pub in_map : slice_get (chip_map c.results chip).memories m ≡ Some entry
  pub in_design : slice_get c.design.memories entry.of.place ≡ Some design
  pub fits : memory_ports_fit c.results chip entry design memory ≡ true

module _ (c : Case) (parts : PartsFit c) (chip m : ℕ) where
  -- a memory of a chip that fits stands for one of the design
  pub stands_for_memory : (memory : EmuMemory) → slice_get (chip_at c.results.net chip).memories m ≡ Some memory → StandsForMemory c chip m memory
  stands_for_memory memory at = by_entry (slice_get (chip_map c.results chip).memories m) refl (parts.memories chip m memory at)
    where
      by_design : (entry : MemMap) → slice_get (chip_map c.results chip).memories m ≡ Some entry → (o : Option Memory) → slice_get c.design.memories entry.of.place ≡ o
          → option_map_or (λ design. memory_ports_fit c.results chip entry design memory) o false ≡ true → StandsForMemory c chip m memory
      by_design entry at None in_design h = no h
      by_design entry at (Some design) in_design h =
          record { entry = entry; design = design; in_map = at; in_design = in_design; fits = h }

      by_entry : (o : Option MemMap) → slice_get (chip_map c.results chip).memories m ≡ o
          → option_map_or (λ entry. memory_fits c.design c.results chip entry memory) o false ≡ true → StandsForMemory c chip m memory
      by_entry None at h = no h
      by_entry (Some entry) at h = by_design entry at (slice_get c.design.memories entry.of.place) refl h

  module _ (memory : EmuMemory) (h : StandsForMemory c chip m memory) where
    -- it is the memory that the map names
    pub of_is : memory_of c.results chip m ≡ Some h.entry.of.place
    of_is = ap (option_map (λ (entry : MemMap). entry.of.place)) h.in_map

    -- as many write nodes as the design's memory has write ports
    pub count_is : length (writes_of c.design c.results chip m) ≡ length h.design.writes
    count_is =
        ap (λ o. length (option_map_or (design_writes c.design) o [])) of_is
        ∙ ap (λ o. length (option_map_or (λ (d : Memory). write_nodes (record { place = h.entry.of.place }) d) o [])) h.in_design
        ∙ length-map (enumerate_from 0 h.design.writes) (λ (e : ℕ × WritePort). Write (record { place = h.entry.of.place }) e.0)
        ∙ length-enumerate_from 0 h.design.writes

    -- the clock of a read port is that of the design's port
    pub clock_is : (k : ℕ) (port : ReadPort) → slice_get h.design.reads k ≡ Some port → clock_of_read c.design c.results chip m k ≡ port.clock
    clock_is k port at =
        ap (λ o. option_and_then (λ (port : ReadPort). port.clock) (option_and_then (λ of. design_read c.design of k) o)) of_is
        ∙ ap (λ o. option_and_then (λ (port : ReadPort). port.clock) (option_and_then (λ (memory : Memory). slice_get memory.reads k) o)) h.in_design
        ∙ ap (option_and_then (λ (port : ReadPort). port.clock)) at

    -- the write port of the design for one of the chip
    pub write_beside : (k : ℕ) (port : EmuWrite) → slice_get memory.writes k ≡ Some port
        → (w : WritePort) × (slice_get h.design.writes k ≡ Some w) × (write_fits c.results chip h.entry.of k w port ≡ true)
    write_beside k port at =
        let count : length memory.writes ≡ length h.design.writes = number_same _ _ (right _ _ (left _ _ (left _ _ (left _ _ h.fits)))) in
        let there = at_same_place memory.writes h.design.writes k port count at in (
          there.0,
          there.1,
          all_at _ (enumerate_from 0 (zip h.design.writes memory.writes)) k (k, (there.0, port)) (right _ _ (left _ _ h.fits))
              (at_own_number (zip h.design.writes memory.writes) k (there.0, port) (zip_at h.design.writes memory.writes k there.0 port there.1 at)),
        )

    -- the read port of the design for one of the chip
    pub read_beside : (k : ℕ) (port : EmuRead) → slice_get memory.reads k ≡ Some port
        → (r : ReadPort) × (slice_get h.design.reads k ≡ Some r) × (read_fits c.results chip h.entry k r port ≡ true)
    read_beside k port at =
        let count : length memory.reads ≡ length h.design.reads = number_same _ _ (right _ _ (left _ _ (left _ _ h.fits))) in
        let there = at_same_place memory.reads h.design.reads k port count at in (
          there.0,
          there.1,
          all_at _ (enumerate_from 0 (zip h.design.reads memory.reads)) k (k, (there.0, port)) (right _ _ h.fits)
              (at_own_number (zip h.design.reads memory.reads) k (there.0, port) (zip_at h.design.reads memory.reads k there.0 port there.1 at)),
        )

-- ## Ports of memories

module _ (c : Case) (chip m k : ℕ) where
  -- a read port stands in its memory
  pub read_port_at : (port : EmuRead) → read_port c.results.net chip m k ≡ Some port
      → (memory : EmuMemory) × (slice_get (chip_at c.results.net chip).memories m ≡ Some memory) × (slice_get memory.reads k ≡ Some port)
  read_port_at port e = go (slice_get (chip_at c.results.net chip).memories m) refl e
    where
      go : (o : Option EmuMemory) → slice_get (chip_at c.results.net chip).memories m ≡ o → option_and_then (λ memory. slice_get memory.reads k) o ≡ Some port
          → (memory : EmuMemory) × (slice_get (chip_at c.results.net chip).memories m ≡ Some memory) × (slice_get memory.reads k ≡ Some port)
      go None at e = absurd (none-some port e)
      go (Some memory) at e = (memory, at, e)

  -- so does a write port
  pub write_port_at : (port : EmuWrite) → write_port c.results.net chip m k ≡ Some port
      → (memory : EmuMemory) × (slice_get (chip_at c.results.net chip).memories m ≡ Some memory) × (slice_get memory.writes k ≡ Some port)
  write_port_at port e = go (slice_get (chip_at c.results.net chip).memories m) refl e
    where
      go : (o : Option EmuMemory) → slice_get (chip_at c.results.net chip).memories m ≡ o → option_and_then (λ memory. slice_get memory.writes k) o ≡ Some port
          → (memory : EmuMemory) × (slice_get (chip_at c.results.net chip).memories m ≡ Some memory) × (slice_get memory.writes k ≡ Some port)
      go None at e = absurd (none-some port e)
      go (Some memory) at e = (memory, at, e)
