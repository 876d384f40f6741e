-- What is not driven from outside is no bit of an input port.
use Rattle.std.proofs.Common.{sym, ◌∙◌}
use Rattle.shape_check.proofs.Lost.{no_input}
use Rattle.shape_check.proofs.shape_case.ShapeCase.is_bit.Goals as goal

pub returns-in_default : goal.returns-in_default
returns-in_default c =
    sym (no_input c.args.self.now.design c.args.net.place c.stands.ensures.design (λ e. c.in_default.not-Input (c.driver.ensures ∙ e)))
