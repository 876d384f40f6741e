-- Inside: the rule of a chip as one for its gates in order.
use Rattle.std.specs.Prelude.{◌≡◌, ◌<◌, ℕ, List, length, slice_index}
use Rattle.emu_machine.specs.declared.netlist.Chip.{Chip}
use Rattle.emu_machine.specs.declared.netlist.EmuGate.{EmuGate}
use Rattle.chip_pass.specs.Orders.{gate_at, input_places}

-- a rule speaks of the gate at a place of the order, whose inputs are these
pub record IsKnownAt (Knows : EmuGate → Type 0) (chip : Chip) (order : List ℕ) (k : ℕ) (inputs : List ℕ) : Type 0 where
  pub place : k < length order
  pub gate : slice_index order k < length chip.gates
  pub known : Knows (gate_at chip (slice_index order k))
  pub reads : inputs ≡ input_places (gate_at chip (slice_index order k))
