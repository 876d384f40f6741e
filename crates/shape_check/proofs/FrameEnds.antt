-- A11: what the marks at a frame's end say of nets, and how many writes a memory has.
use Rattle.std.proofs.Common.{◌≡◌, ◌<◌, ℕ, [], length, refl, sym, subst, ap, ◌∙◌}
use Rattle.std.specs.Prelude.{Option, Some, None, slice_get, option_map, option_and_then}
use Rattle.std.specs.Option.{option_map_or}
use Rattle.std.proofs.lemmas.Option.{none-some}
use Rattle.id_arena.specs.declared.keys.ChipNetId.{ChipNetId}
use Rattle.design_core.specs.declared.element.Memory.{Memory}
use Rattle.design_core.specs.declared.parts.Parts.{Parts}
use Rattle.design_core.specs.Dependency.{write_nodes}
use Rattle.clock_rank.proofs.Numbering.{port_count, write_nodes_are}
use Rattle.emu_machine.specs.declared.map.MemMap.{MemMap}
use Rattle.emu_machine.specs.declared.netlist.EmuMemory.{EmuMemory}
use Rattle.emu_machine.specs.declared.netlist.EmuRead.{EmuRead}
use Rattle.emu_machine.specs.declared.netlist.EmuRegister.{EmuRegister}
use Rattle.emu_machine.specs.Building.{IsBuilt}
use Rattle.emu_machine.specs.Results.{Results}
use Rattle.emu_machine.specs.Netlist.{chip_at, gate_of}
use Rattle.emu_machine.specs.Mapped.{chip_map}
use Rattle.emu_machine.specs.Marks.{Mark, design_writes, net_mark, writes_of}
use Rattle.emu_machine.specs.Acceptance.{end_marks, ends_after}
use Rattle.mark_rule.proofs.Free.{IsReadNet, chip_formed, free_read, free_register}
use Rattle.frame_marks.specs.Frames.{FrameState, mark_in}
use Rattle.shape_check.specs.Influences.{inside_of}
use Rattle.shape_check.specs.Ends.{AreEndMarks, FrameEnd, IsEndNet}

-- the mark that was followed tells whether the net has "after"
pub shown : (e : FrameEnd) (f : FrameState) → AreEndMarks e f → (k : ℕ) (net : ChipNetId) → IsEndNet e k net
    → (mark_in f.chips k net.place).after ≡ ends_after e.judged (inside_of e.spread) e.frame k net
shown e f are k net end =
    ap (λ (m : Mark). m.after)
    (are.shows.nets k net.place
    (subst (λ (r : Results). net.place < (chip_at r.net k).nets) (sym are.results) end.low)
    (subst (λ (r : Results). gate_of (chip_at r.net k) net.place ≡ None) (sym are.results) end.free)
    ∙ ap (λ (p : Parts). net_mark p f.results (inside_of e.spread e.frame) (end_marks e.judged (inside_of e.spread) e.frame) k net.place) are.design
    ∙ ap (λ (r : Results). net_mark e.judged.design r (inside_of e.spread e.frame) (end_marks e.judged (inside_of e.spread) e.frame) k net.place) are.results)

module _ (e : FrameEnd) (built : IsBuilt e.judged.results.net) (k : ℕ) where
  -- no gate drives the Q of a register
  pub end_q : (i : ℕ) (register : EmuRegister) → slice_get (chip_at e.judged.results.net k).registers i ≡ Some register → IsEndNet e k register.q
  end_q i register at = record {
    low = ((chip_formed e.judged.results.net built.formed k).registers i register at).q;
    free = free_register e.judged.results built k i register at;
  }

  -- nor a bit of a read port
  pub end_bit : (net : ChipNetId) → IsReadNet (chip_at e.judged.results.net k) net → IsEndNet e k net
  end_bit net is = record {
    low = (((chip_formed e.judged.results.net built.formed k).memories is.mem is.memory is.at_memory).reads is.place is.port is.at_port).bits is.bit net is.at_bit;
    free = free_read e.judged.results built k net is;
  }

  -- the bits of a read port that is there
  pub port_bits_end : (m i : ℕ) (port : EmuRead) → option_and_then (λ (memory : EmuMemory). slice_get memory.reads i) (slice_get (chip_at e.judged.results.net k).memories m) ≡ Some port
      → (b : ℕ) (net : ChipNetId) → slice_get port.bits b ≡ Some net → IsEndNet e k net
  port_bits_end m i port at b net bit = go (slice_get (chip_at e.judged.results.net k).memories m) refl at
    where
      go : (o : Option EmuMemory) → slice_get (chip_at e.judged.results.net k).memories m ≡ o → option_and_then (λ (memory : EmuMemory). slice_get memory.reads i) o ≡ Some port → IsEndNet e k net
      go None is gone = absurd (none-some port gone)
      go (Some memory) is here =
          end_bit net (record { mem = m; memory = memory; at_memory = is; place = i; port = port; at_port = here; bit = b; at_bit = bit })

-- a memory has as many write nodes as write ports
node_count : (m : ℕ) (memory : Memory) → length memory.writes ≡ length (write_nodes (record { place = m }) memory)
node_count m memory = sym (ap length (write_nodes_are (record { place = m }) memory) ∙ port_count m (length memory.writes))

pub writes_are : (p : Parts) (r : Results) (k m : ℕ) (entry : MemMap) (memory : Memory) → slice_get (chip_map r k).memories m ≡ Some entry → slice_get p.memories entry.of.place ≡ Some memory
    → length memory.writes ≡ length (writes_of p r k m)
writes_are p r k m entry memory at here =
    node_count entry.of.place memory
    ∙ ap (λ (o : Option Memory). length (option_map_or (λ (d : Memory). write_nodes (record { place = entry.of.place }) d) o [])) (sym here)
    ∙ ap (λ (o : Option MemMap). length (option_map_or (design_writes p) (option_map (λ (x : MemMap). x.of.place) o) [])) (sym at)
