use Rattle.std.proofs.Common.{subst, sym}
use Rattle.std.specs.Prelude.{OnOk}
use Rattle.frame_marks.specs.Takes.{GivesOne}
use Rattle.frame_marks.proofs.given.give.Goals as goal

pub returns-in-Input-clause-given : goal.returns-in-Input-clause-given
returns-in-Input-clause-given c =
    subst (λ a. OnOk c.give_input.result (GivesOne c.args.start.now a c.args.given.now.items c.give_input.new.given.items)) (sym c.in-Input.is) c.give_input.ensures.given
