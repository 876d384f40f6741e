use Rattle.std.proofs.Common.{◌≡◌, arith}
use Rattle.frame_marks.proofs.Putting.{all_put}
use Rattle.frame_marks.proofs.chips.put_given.Goals as goal

pub returns-clause-put : goal.returns-clause-put
returns-clause-put g c =
    let none : c.given.left ≡ 0 = omega (arith, c.given-test.false) in
    all_put c.args.plan.results.now (g.I.Inside.inside c.args.inside.now) c.args.given.now c.given.left none c.args.chips.now c.given.chips c.given.invariant.put
