use Rattle.std.proofs.Common.{◌≡◌, ◌∙◌, ap, codes, refl}
use Rattle.flattening.specs.declared.made.Made.{Made}
use Rattle.flattening.specs.Pieces.{joined}
use Rattle.elaborator.specs.Top.{constant_alone}
use Rattle.elaborator.proofs.Whole.{both_constants}
use Rattle.elaborator.proofs.top.constants.Goals as goal

pub returns : goal.returns
returns c =
    c.in_ok-push_constant-2.ensures
    ∙ ap (λ (x : Made). joined x (constant_alone (codes "1'b1"))) (c.in_ok-push_constant.ensures ∙ ap (λ (x : Made). joined x (constant_alone (codes "1'b0"))) c.new-making.ensures)
    ∙ both_constants
