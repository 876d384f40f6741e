-- The marks are those of the subject of the gate's output, for the marks of the gate's inputs.
use Rattle.std.proofs.Common.{◌≡◌, subst}
use Rattle.mark_rule.specs.Gates.{OutputRule, plain_gives, marks_on}
use Rattle.mark_rule.proofs.Giving.{output_gives}
use Rattle.mark_rule.proofs.rule.PlainRuleChipRuleNetMarks.value.Goals as goal

pub returns-clause-value : goal.returns-clause-value
returns-clause-value g c =
    subst
    (λ (rule : OutputRule). c.plain_mark.result ≡ plain_gives rule.design rule.results rule.chip c.args.gate.now (marks_on c.args.values.now c.args.gate.now.inputs))
    c.self.view_is
    (output_gives c.self.inside.design.now c.self.inside.results.now c.self.inside.chip.place c.args.gate.now c.args.values.now _ _ c.subject_of-what.ensures c.as_slice.ensures
    _ c.plain_mark.ensures)
