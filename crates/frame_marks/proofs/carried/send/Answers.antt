use Rattle.std.proofs.Common.{rules, subst, sym, ap}
use Rattle.std.specs.Prelude.{slice_set}
use Rattle.frame_marks.specs.Takes.{SendsOne}
use Rattle.frame_marks.proofs.Sending.{one_sent}
use Rattle.frame_marks.proofs.carried.send.Goals as goal

pub returns-in-Send-clause-sent : goal.returns-in-Send-clause-sent
returns-in-Send-clause-sent c =
    subst (λ a. SendsOne c.args.plan.design.now c.args.plan.results.now c.args.plan.wires.now c.args.chips.now a c.args.carried.now (slice_set c.args.carried.now c.place.result c.mark_on.result)) (sym c.in-Send.is)
    (one_sent c.args.plan.design.now c.args.plan.results.now c.args.plan.wires.now c.args.chips.now c.requires.tables
    c.in-Send.wire c.in-Send.net c.in-Send.register c.ends_of-ends.result c.ends_of-ends.ensures (search rules) c.args.carried.now c.requires.carried
    c.mark_on.result c.mark_on.ensures _ (ap (λ w. slice_set c.args.carried.now w c.mark_on.result) c.place.ensures))
