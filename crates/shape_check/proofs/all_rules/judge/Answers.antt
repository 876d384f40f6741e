use Rattle.std.proofs.Common.{ap, ◌∙◌}
use Rattle.design_core.specs.declared.parts.Parts.{Parts}
use Rattle.shape_check.specs.ShapeCase.{shape_case}
use Rattle.shape_check.proofs.Judged.{answer_told}
use Rattle.shape_check.proofs.all_rules.judge.Goals as goal

pub returns : goal.returns
returns c =
    answer_told c.judge_whole.result (shape_case c.args.ranked.now.design c.args.groups.now c.args.board.now c.args.results.now) c.new-case.result c.in_ok-influences.influences
    (c.new-case.ensures ∙ ap (λ (p : Parts). shape_case p c.args.groups.now c.args.board.now c.args.results.now) c.design.ensures)
    c.in_ok-influences.ensures.design c.in_ok-influences.ensures.table c.judge_whole.ensures
