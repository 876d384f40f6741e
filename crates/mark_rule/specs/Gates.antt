-- What a gate of a chip gives for the marks of its inputs.
-- The rules are told in docs/RULES.md, "Marks" and "Acceptance".
use Rattle.std.specs.Prelude.{ℕ, ◌<◌, Bool, true, false, List, map}
use Rattle.id_arena.specs.declared.keys.ChipNetId.{ChipNetId}
use Rattle.design_core.specs.declared.element.Driver.{Driver}
use Rattle.design_core.specs.declared.element.Driver.TheVariants.{Constant}
use Rattle.design_core.specs.declared.node.NodeId.{NodeId}
use Rattle.design_core.specs.declared.parts.Parts.{Parts}
use Rattle.gate_pass.specs.Gates.{value_on}
use Rattle.emu_machine.specs.declared.netlist.EmuGate.{EmuGate}
use Rattle.emu_machine.specs.Results.{Results}
use Rattle.emu_machine.specs.Mapped.{subject}
use Rattle.emu_machine.specs.Marks.{Mark, no_mark, widened, gate_mark}
use Rattle.emu_machine.specs.Acceptance.{plain_gate_mark}

-- What contracts see of the rule of a frame: the design, the results and the chip of which it speaks, and
-- what tells the influence.
pub record FrameRule (I : Type 0) : Type 0 where
  pub design : Parts
  pub results : Results
  pub chip : ℕ
  pub inside : I

-- the same of the rule that A12 goes by, which asks for no influence
pub record OutputRule : Type 0 where
  pub design : Parts
  pub results : Results
  pub chip : ℕ

-- what a gate of chip `c` gives in a frame: the marks of its kind, widened
abbrev pub gate_gives : Parts → Results → (NodeId → Bool) → ℕ → EmuGate → List Mark → Mark
gate_gives p r inside c gate ms =
    widened inside (subject r c gate.output.place) (gate_mark p (subject r c gate.output.place) ms)

-- what it gives by A12
abbrev pub plain_gives : Parts → Results → ℕ → EmuGate → List Mark → Mark
plain_gives p r c gate ms = plain_gate_mark p (subject r c gate.output.place) ms

-- ## Inside: the marks of nets in a table

-- a net is one of so many
abbrev pub IsThere : ℕ → ChipNetId → Type 0
IsThere nets n = n.place < nets

-- the marks of a net, and none where it is not there
abbrev pub mark_on : List Mark → ChipNetId → Mark
mark_on marks n = value_on no_mark marks n.place

-- the marks of some nets, one by one
abbrev pub marks_on : List Mark → List ChipNetId → List Mark
marks_on marks nets = map (mark_on marks) nets

-- a net is a constant
abbrev pub is_constant : Driver → Bool
is_constant (Constant b) = true
is_constant other = false
