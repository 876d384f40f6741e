-- What the inputs so far have, with what those that are left have, is what all have.
use Rattle.std.proofs.Common.{◌≡◌, drop, length}
use Rattle.std.specs.Prelude.{◌&&◌, All}
use Rattle.emu_machine.specs.Marks.{all_after, all_before}
use Rattle.mark_rule.specs.Gates.{IsThere, marks_on}
use Rattle.mark_rule.proofs.gates.copied_mark.Given as goal

abbrev pub invariant-inputs : goal.invariant-inputs
invariant-inputs l = record {
  before : (l.before && all_before (marks_on l.marks (drop l.input-index l.inputs))) ≡ all_before (marks_on l.marks l.inputs);
  after : (l.after && all_after (marks_on l.marks (drop l.input-index l.inputs))) ≡ all_after (marks_on l.marks l.inputs);
  there : All (IsThere (length l.marks)) (drop l.input-index l.inputs);
}
