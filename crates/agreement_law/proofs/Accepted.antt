-- Offered to the crates above: what the rules of acceptance say where they hold.
use Rattle.std.proofs.Common.{◌≡◌, ℕ, Bool, true, false, not, length, refl, subst, sym, ap, ◌∙◌}
use Rattle.std.specs.Prelude.{◌&&◌, ◌||◌, Option, Some, None, slice_get, is_some}
use Rattle.std.specs.List.{list_all}
use Rattle.id_arena.specs.declared.keys.NetId.{NetId}
use Rattle.id_arena.specs.declared.keys.ChipNetId.{ChipNetId}
use Rattle.design_core.specs.declared.node.NodeId.{NodeId}
use Rattle.design_core.specs.Design.{port_bits}
use Rattle.design_core.specs.Influence.{Group, all_groups}
use Rattle.emu_machine.specs.declared.netlist.EmuGate.{EmuGate}
use Rattle.emu_machine.specs.declared.netlist.EmuMemory.{EmuMemory}
use Rattle.emu_machine.specs.declared.netlist.EmuRead.{EmuRead}
use Rattle.emu_machine.specs.declared.netlist.EmuRegister.{EmuRegister}
use Rattle.emu_machine.specs.declared.schedule.Frame.{Frame}
use Rattle.emu_machine.specs.declared.map.Spot.{Spot}
use Rattle.emu_machine.specs.declared.map.Subject.TheVariants.{Net}
use Rattle.emu_machine.specs.declared.place.Place.TheVariants as place
use Rattle.emu_machine.specs.Netlist.{chip_at}
use Rattle.emu_machine.specs.State.{read_port}
use Rattle.emu_machine.specs.Mapped.{subject}
use Rattle.emu_machine.specs.Marks.{writes_of}
use Rattle.emu_machine.specs.Origins.{gate_fits, register_fits}
use Rattle.emu_machine.specs.declared.rule.Rule.{Rule}
use Rattle.emu_machine.specs.declared.rule.Rule.TheVariants.{A4, A5, A6, A7, A8, A9, A11, A12}
use Rattle.emu_machine.specs.Acceptance.{Case, Holds, fails_test, action_at, case_action_fits, keeps_subject, register_at, mapped_memory_fits, output_differs, frame_differs, has_frame, end_marks, ends_after, is_kept_register, is_kept_read, register_ends, memory_ends, read_ends, shows_before}
use Rattle.facts.proofs.Tests.{no, left, right, must, must_not, not_true, number_same}
use Rattle.marks_law.specs.Slots.{FrameFits}
use Rattle.marks_law.proofs.Given.{same_subjects_is}
use Rattle.facts.proofs.Places.{all_at}

passes : {X : Type 0} (test : X → Bool) (o : Option X) (x : X) → (fails_test test o → ⊥) → o ≡ Some x → test x ≡ true
passes test o x h e = must (test x) (subst (λ o. fails_test test o → ⊥) e h)

-- where a fact of a test is refuted beside what holds, the test passes
left_out : (a b : Bool) → ((a && not b) ≡ true → ⊥) → a ≡ true → b ≡ true
left_out true true h e = refl
left_out true false h e = absurd (h refl)
left_out false b h e = no e

module _ (c : Case) (inside : ℕ → NodeId → Bool) (rules : (rule : Rule) → Holds c inside rule) where
  -- ## Parts

  pub gates_fit : (chip k : ℕ) (gate : EmuGate) → slice_get (chip_at c.results.net chip).gates k ≡ Some gate → gate_fits c.design c.results chip gate ≡ true
  gates_fit chip k gate at = passes (gate_fits c.design c.results chip) _ gate (rules A7 (place.Gate (record { place = chip }) k)) at

  pub registers_fit : (chip k : ℕ) (register : EmuRegister) → register_at c chip k ≡ Some register → register_fits c.design c.results chip register ≡ true
  registers_fit chip k register at =
      passes (register_fits c.design c.results chip) _ register (rules A7 (place.Register (record { place = chip }) (record { place = k }))) at

  pub mapped_memories_fit : (chip m : ℕ) (memory : EmuMemory) → slice_get (chip_at c.results.net chip).memories m ≡ Some memory → mapped_memory_fits c chip m memory ≡ true
  mapped_memories_fit chip m memory at =
      passes (mapped_memory_fits c chip m) _ memory (rules A7 (place.Memory (record { place = chip }) (record { place = m }))) at

  -- ## Actions

  pub frame_fits : (frame : ℕ) → FrameFits c frame
  frame_fits k =
      record {
        there = λ t j a at. passes (case_action_fits c k t) (action_at c k t j) a (rules A5 (place.Action k t j)) at;
        once = λ t j what again. rules A6 (place.Again k t j what) again;
        keeps = λ t j a at. passes (keeps_subject c) (action_at c k t j) a (rules A8 (place.Action k t j)) at;
      }

  -- ## Frames

  frame_there : (o : Option Frame) (g : Option Group) (group : Group) → (frame_differs c o g ≡ true → ⊥) → g ≡ Some group → is_some o ≡ true
  frame_there (Some frame) g group h e = refl
  frame_there None g group h e = absurd (h (ap (frame_differs c None) e))

  pub has_its_frame : (frame : ℕ) (group : Group) → slice_get (all_groups c.design c.groups) frame ≡ Some group → has_frame c frame ≡ true
  has_its_frame k group at =
      frame_there (slice_get c.results.schedule.frames k) (slice_get (all_groups c.design c.groups) k) group (rules A4 (place.Frame k)) at

  -- ## The end of a frame

  module _ (frame : ℕ) (there : has_frame c frame ≡ true) where
    pub register_ends_after : (chip i : ℕ) (register : EmuRegister) → register_at c chip i ≡ Some register → is_kept_register c.results chip i ≡ true → ends_after c inside frame chip register.q ≡ true
    register_ends_after chip i register at kept =
        let ended : register_ends c inside frame chip i (register_at c chip i) ≡ true =
        left_out (has_frame c frame) _ (rules A11 (place.EndRegister frame (record { place = chip }) (record { place = i }))) there in
        now (is_kept_register c.results chip i) kept (sym (ap (register_ends c inside frame chip i) at) ∙ ended)
      where
        now : (b : Bool) → b ≡ true → (not b || ends_after c inside frame chip register.q) ≡ true → ends_after c inside frame chip register.q ≡ true
        now true e h = h
        now false e h = no e

    pub read_ends_after : (chip m i : ℕ) (port : EmuRead) → read_port c.results.net chip m i ≡ Some port → is_kept_read c.results chip m i ≡ true
        → (b : ℕ) (n : ChipNetId) → slice_get port.bits b ≡ Some n → ends_after c inside frame chip n ≡ true
    read_ends_after chip m i port at kept b n in_port =
        let ended : read_ends c inside frame chip m i (read_port c.results.net chip m i) ≡ true =
        left_out (has_frame c frame) _ (rules A11 (place.EndRead frame (record { place = chip }) (record { place = m }) i)) there in
        all_at (ends_after c inside frame chip) port.bits b n (now (is_kept_read c.results chip m i) kept (sym (ap (read_ends c inside frame chip m i) at) ∙ ended)) in_port
      where
        now : (b : Bool) → b ≡ true → (not b || list_all (ends_after c inside frame chip) port.bits) ≡ true → list_all (ends_after c inside frame chip) port.bits ≡ true
        now true e h = h
        now false e h = no e

    pub memory_ends_done : (chip m : ℕ) (memory : EmuMemory) → slice_get (chip_at c.results.net chip).memories m ≡ Some memory
        → ((end_marks c inside frame).broken chip m ≡ false) × ((end_marks c inside frame).standing chip m ≡ length (writes_of c.design c.results chip m))
    memory_ends_done chip m memory at =
        let ended : memory_ends c inside frame chip m ≡ true =
        left_out (has_frame c frame && is_some (slice_get (chip_at c.results.net chip).memories m)) _ (rules A11 (place.EndMemory frame (record { place = chip }) (record { place = m })))
        (ap (λ b. b && is_some (slice_get (chip_at c.results.net chip).memories m)) there ∙ ap is_some at) in
        (not_true _ (left _ _ ended), number_same _ _ (right _ _ ended))

  -- ## Outputs

  pub output_subject : (k : ℕ) (spot : Spot) (n : NetId) → slice_get c.results.map.outputs k ≡ Some spot → slice_get (port_bits c.design.outputs) k ≡ Some n
      → subject c.results spot.chip.place spot.net.place ≡ Some (Net n)
  output_subject k spot n at in_ports =
      let fits : output_differs c.results (Some spot) (Some n) ≡ true → ⊥ =
      subst (λ (o : Option NetId). output_differs c.results (Some spot) o ≡ true → ⊥) in_ports
      (subst (λ (o : Option Spot). output_differs c.results o (slice_get (port_bits c.design.outputs) k) ≡ true → ⊥) at (rules A9 (place.Output k))) in
      same_subjects_is _ (Net n) (must_not _ fits)

  pub output_shows : (k : ℕ) (spot : Spot) → slice_get c.results.map.outputs k ≡ Some spot → shows_before c spot ≡ true
  output_shows k spot at = passes (shows_before c) _ spot (rules A12 (place.Output k)) at
