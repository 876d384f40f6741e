-- The marks are those of the subject of the gate's output, for the marks of the gate's inputs.
use Rattle.std.proofs.Common.{◌≡◌, subst}
use Rattle.mark_rule.specs.Gates.{gate_gives, marks_on}
use Rattle.mark_rule.proofs.Giving.{frame_gives}
use Rattle.mark_rule.proofs.rule.MarkRuleChipRuleNetMarks.value.Goals as goal

pub returns-clause-value : goal.returns-clause-value
returns-clause-value g c =
    subst
    (λ rule. c.widen.result ≡ gate_gives rule.design rule.results (g.I.Inside.inside rule.inside) rule.chip c.args.gate.now (marks_on c.args.values.now c.args.gate.now.inputs))
    c.self.view_is
    (frame_gives c.self.inside.design.now c.self.inside.results.now c.self.inside.chip.place c.args.gate.now c.args.values.now _ _ c.subject_of-what.ensures c.as_slice.ensures
    (g.I.Inside.inside c.self.inside.inside.now) _ _ c.gate_mark-marks.ensures c.widen.ensures)
