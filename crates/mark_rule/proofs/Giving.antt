-- What the code of a rule works out is what the rule gives, and a table that is told from nothing tells what is kept.
use Rattle.std.proofs.Common.{◌≡◌, ℕ, Bool, List, ap, ◌∙◌}
use Rattle.std.specs.Prelude.{Option}
use Rattle.id_arena.specs.declared.keys.ChipNetId.{ChipNetId}
use Rattle.design_core.specs.declared.node.NodeId.{NodeId}
use Rattle.design_core.specs.declared.parts.Parts.{Parts}
use Rattle.emu_machine.specs.declared.netlist.EmuGate.{EmuGate}
use Rattle.emu_machine.specs.declared.map.Subject.{Subject}
use Rattle.emu_machine.specs.Results.{Results}
use Rattle.emu_machine.specs.Mapped.{subject}
use Rattle.emu_machine.specs.Marks.{Mark, gate_mark, widened}
use Rattle.emu_machine.specs.Acceptance.{plain_gate_mark}
use Rattle.mark_rule.specs.Gates.{gate_gives, plain_gives, marks_on}

module _ (p : Parts) (r : Results) (c : ℕ) (gate : EmuGate) (values : List Mark) (what : Option Subject) (inputs : List ChipNetId)
    (is : what ≡ subject r c gate.output.place) (same : inputs ≡ gate.inputs) where
  -- the marks of a gate of a frame
  pub frame_gives : (inside : NodeId → Bool) (marks result : Mark) → marks ≡ gate_mark p what (marks_on values inputs) → result ≡ widened inside what marks
      → result ≡ gate_gives p r inside c gate (marks_on values gate.inputs)
  frame_gives inside marks result made wide =
      wide
      ∙ ap (widened inside what) made
      ∙ ap (λ (o : Option Subject). widened inside o (gate_mark p o (marks_on values inputs))) is
      ∙ ap (λ (nets : List ChipNetId). gate_gives p r inside c gate (marks_on values nets)) same

  -- those that A12 goes by
  pub output_gives : (marks : Mark) → marks ≡ plain_gate_mark p what (marks_on values inputs) → marks ≡ plain_gives p r c gate (marks_on values gate.inputs)
  output_gives marks made =
      made
      ∙ ap (λ (o : Option Subject). plain_gate_mark p o (marks_on values inputs)) is
      ∙ ap (λ (nets : List ChipNetId). plain_gives p r c gate (marks_on values nets)) same
