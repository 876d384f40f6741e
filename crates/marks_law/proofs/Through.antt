-- Offered to the crates above: true marks of what is held give true marks of all nets.
use Rattle.std.proofs.Common.{◌≡◌, ℕ, Bool, true, false, not, List, length, map, refl, sym, ◌∙◌, inl, inr}
use Rattle.std.specs.Prelude.{◌<◌, ◌&&◌, ◌⊎◌, Option, Some, None, if◌then◌else◌}
use Rattle.std.specs.Option.{option_map_or}
use Rattle.id_arena.specs.declared.keys.NetId.{NetId}
use Rattle.design_core.specs.declared.node.NodeId.{NodeId}
use Rattle.design_core.specs.declared.node.NodeId.TheVariants as node
use Rattle.design_core.specs.declared.parts.Parts.{Parts}
use Rattle.design_core.specs.declared.values.PortBit.{PortBit}
use Rattle.design_core.specs.Operation.{op_value}
use Rattle.design_core.specs.Design.{net_count}
use Rattle.design_core.specs.Valuation.{Valuation}
use Rattle.emu_machine.specs.declared.netlist.EmuGate.{EmuGate}
use Rattle.emu_machine.specs.declared.map.Subject.{Subject}
use Rattle.emu_machine.specs.declared.map.Subject.TheVariants.{Net, Up, Down, Take, Next, TakeWrite, Old, TakeRead}
use Rattle.emu_machine.specs.Results.{Results}
use Rattle.emu_machine.specs.Netlist.{chip_at}
use Rattle.emu_machine.specs.State.{State, net_value}
use Rattle.emu_machine.specs.Mapped.{subject}
use Rattle.emu_machine.specs.Marks.{Mark, MarkState, both_marks, has_some, widened, gate_mark, net_mark}
use Rattle.emu_machine.specs.Origins.{Origin, origin_of, has_origin}
use Rattle.marks_law.specs.Facts.{EventFacts}
use Rattle.marks_law.specs.Truth.{MarkHolds, IsTrueOf, SourcesTrue, SubjectsStand}
use Rattle.marks_law.specs.Gates.{GatesFit, GatesKeepMarks}
use Rattle.facts.proofs.Tests.{no, left, right, either, not_true}
use Rattle.marks_law.proofs.Parallel.{in_parallel}
use Rattle.marks_law.proofs.Inputs.{inputs_true, same_op_is}
use Rattle.marks_law.proofs.GateMarks.{IsMade, made_true}

module _ (p : Parts) (inside : NodeId → Bool) (v w : Valuation) (event : List PortBit) (facts : EventFacts p inside v event w) where
  -- ## Widening

  both_hold : (n : NetId) (m : Mark) (b : Bool) → w.net n.place ≡ v.net n.place → (m.before ≡ true) ⊎ (m.after ≡ true) → MarkHolds p v w (Net n) m b → MarkHolds p v w (Net n) both_marks b
  both_hold n m b same (inl k) t = record { before = λ a. t.before k; after = λ a. t.before k ∙ sym same }
  both_hold n m b same (inr k) t = record { before = λ a. t.after k ∙ same; after = λ a. t.after k }

  widened_net : (n : NetId) (m : Mark) (b : Bool) → n.place < net_count p → (wide : Bool) → (has_some m && not (inside (node.Net n))) ≡ wide
      → MarkHolds p v w (Net n) m b → MarkHolds p v w (Net n) (if wide then both_marks else m) b
  widened_net n m b low false e t = t
  widened_net n m b low true e t =
      both_hold n m b (facts.nets n low (not_true (inside (node.Net n)) (right _ _ e))) (either m.before m.after (left _ _ e)) t

  widened_true : (o : Option Subject) (m : Mark) (b : Bool) → ((n : NetId) → o ≡ Some (Net n) → n.place < net_count p)
      → IsTrueOf p v w o m b → IsTrueOf p v w o (widened inside o m) b
  widened_true None m b stands t = tt
  widened_true (Some (Net n)) m b stands t = widened_net n m b (stands n refl) (has_some m && not (inside (node.Net n))) refl t
  widened_true (Some (Up n)) m b stands t = t
  widened_true (Some (Down n)) m b stands t = t
  widened_true (Some (Take e)) m b stands t = t
  widened_true (Some (Next e)) m b stands t = t
  widened_true (Some (TakeWrite k j)) m b stands t = t
  widened_true (Some (Old k j i)) m b stands t = t
  widened_true (Some (TakeRead k j)) m b stands t = t

  -- ## Gates

  module _ (r : Results) (chip : ℕ) (gate : EmuGate) (f : ℕ → Mark) (g : ℕ → Bool) (both : (i : ℕ) → IsTrueOf p v w (subject r chip i) (f i) (g i)) where
    -- what the gate's origin demands of its function and its inputs is so
    pub origin_made : (o : Option Origin) → has_origin r chip gate o ≡ true
        → IsMade p inside v w event facts gate.op (map (λ i. f i.place) gate.inputs) (map (λ i. g i.place) gate.inputs) o
    origin_made None h = no h
    origin_made (Some origin) h =
        (same_op_is gate.op origin.op (left _ _ h), inputs_true p v w r chip f g both gate.inputs origin.inputs (right _ _ h))

    by_fit : (o : Option Subject) → option_map_or (λ what. has_origin r chip gate (origin_of p what)) o false ≡ true
        → IsTrueOf p v w o (gate_mark p o (map (λ i. f i.place) gate.inputs)) (op_value gate.op (map (λ i. g i.place) gate.inputs))
    by_fit None h = no h
    by_fit (Some what) h =
        made_true p inside v w event facts what gate.op (map (λ i. f i.place) gate.inputs) (map (λ i. g i.place) gate.inputs) (origin_made (origin_of p what) h)

  nets_true : (r : Results) (s : MarkState) (x : State) → GatesFit p r → SubjectsStand p r → SourcesTrue p r v w s x
      → (c n : ℕ) → IsTrueOf p v w (subject r c n)
      (net_mark p r inside s c n)
      (net_value r.net x c n)
  nets_true r s x fit stand held c n =
      in_parallel (chip_at r.net c)
      (λ (k : ℕ). widened inside (subject r c k) (s.on c k))
      (x.held c)
      (λ (gate : EmuGate) (ms : List Mark). widened inside (subject r c gate.output.place) (gate_mark p (subject r c gate.output.place) ms))
      (λ (gate : EmuGate) (bits : List Bool). op_value gate.op bits)
      (λ (k : ℕ) (m : Mark) (b : Bool). IsTrueOf p v w (subject r c k) m b)
      (λ k. widened_true (subject r c k) (s.on c k) (x.held c k) (stand c k) (held c k))
      (λ k gate at f g both.
      widened_true (subject r c gate.output.place) _ _ (stand c gate.output.place)
      (by_fit r c gate f g both (subject r c gate.output.place) (fit c k gate at)))
      (length (chip_at r.net c).gates)
      n

pub gates_keep_marks : GatesKeepMarks
gates_keep_marks p r inside v w event s x facts fit stand held = nets_true p inside v w event facts r s x fit stand held
