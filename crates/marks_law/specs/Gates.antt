-- The laws of gates: a table computes its function, and marks that are true of what is held are true of
-- all nets. The rule is told in docs/RULES.md, "Marks".
use Rattle.std.specs.Prelude.{◌≡◌, ℕ, Bool, true, List, length, slice_get, Some}
use Rattle.design_core.specs.declared.node.NodeId.{NodeId}
use Rattle.design_core.specs.declared.parts.Parts.{Parts}
use Rattle.design_core.specs.declared.values.PortBit.{PortBit}
use Rattle.design_core.specs.Operation.{op_value}
use Rattle.design_core.specs.Valuation.{Valuation}
use Rattle.emu_machine.specs.declared.netlist.EmuGate.{EmuGate}
use Rattle.emu_machine.specs.Results.{Results}
use Rattle.emu_machine.specs.Netlist.{chip_at}
use Rattle.emu_machine.specs.State.{State}
use Rattle.emu_machine.specs.Marks.{MarkState}
use Rattle.emu_machine.specs.Origins.{table_of, gate_fits}
use Rattle.marks_law.specs.Facts.{EventFacts}
use Rattle.marks_law.specs.Truth.{SourcesTrue, NetsTrue, SubjectsStand}

-- the table of a function gives for each list of inputs what the function gives
abbrev pub TablesAreFunctions : Type 0
TablesAreFunctions =
    (function : List Bool → Bool) (bits : List Bool) → op_value (table_of (length bits) function) bits ≡ function bits

-- each gate of each chip is what the subject of its output says
abbrev pub GatesFit : Parts → Results → Type 0
GatesFit p r =
    (chip place : ℕ) (gate : EmuGate) → slice_get (chip_at r.net chip).gates place ≡ Some gate → gate_fits p r chip gate ≡ true

-- Where each gate fits, marks that are true of what registers and read ports hold give marks that are true
-- of what all nets show.
abbrev pub GatesKeepMarks : Type 0
GatesKeepMarks =
    (p : Parts) (r : Results) (inside : NodeId → Bool) (v w : Valuation) (event : List PortBit) (s : MarkState) (x : State)
    → EventFacts p inside v event w
    → GatesFit p r
    → SubjectsStand p r
    → SourcesTrue p r v w s x
    → NetsTrue p r inside v w s x
