-- Orders in which the gates of a chip stand after all gates that drive their inputs, and the gates in such an order.
-- The rule is told in docs/RULES.md, "Netlists of chips".
use Rattle.std.specs.Prelude.{◌≡◌, ◌<◌, ℕ, Some, List, [], map, length, slice_get, slice_index, slice_index_or, Contains}
use Rattle.design_core.specs.declared.operation.Op.TheVariants.{Buf}
use Rattle.emu_machine.specs.declared.netlist.Chip.{Chip}
use Rattle.emu_machine.specs.declared.netlist.EmuGate.{EmuGate}

-- each gate stands in the order once, after the gates that drive its inputs
pub record IsGateOrder (chip : Chip) (order : List ℕ) : Type 0 where
  pub count : length order ≡ length chip.gates
  pub in_range : (j : ℕ) → j < length order → slice_index order j < length chip.gates
  pub all : (k : ℕ) → k < length chip.gates → Contains order k
  pub once : (j k : ℕ) → j < length order → k < length order → slice_index order j ≡ slice_index order k → j ≡ k
  pub earlier : (j i : ℕ) (to from : EmuGate) → j < length order → i < length order
      → slice_get chip.gates (slice_index order j) ≡ Some to
      → slice_get chip.gates (slice_index order i) ≡ Some from
      → Contains to.inputs from.output
      → i < j

-- a gate for a number that no gate has
abbrev pub no_gate : EmuGate
no_gate = record { op = Buf; output = record { place = 0 }; inputs = [] }

-- the gate of this number
abbrev pub gate_at : Chip → ℕ → EmuGate
gate_at chip k = slice_index_or chip.gates k no_gate

-- the nets that a gate reads, by their places
abbrev pub input_places : EmuGate → List ℕ
input_places gate = map (λ i. i.place) gate.inputs

-- for each gate in order the nets that it reads
abbrev pub ranked_inputs : Chip → List ℕ → List (List ℕ)
ranked_inputs chip order = map (λ k. input_places (gate_at chip k)) order

-- for each gate in order the net that it drives
abbrev pub ranked_outputs : Chip → List ℕ → List ℕ
ranked_outputs chip order = map (λ k. (gate_at chip k).output.place) order

-- what the gate at a place of the order gives
abbrev pub gives_at : {T : Type 0} → (EmuGate → List T → T) → Chip → List ℕ → ℕ → List T → T
gives_at gives chip order k = gives (gate_at chip (slice_index order k))
