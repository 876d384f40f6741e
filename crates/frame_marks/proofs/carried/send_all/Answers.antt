use Rattle.std.proofs.Common.{◌≡◌, ◌+◌, ◌-◌, ◌<◌, length, arith}
use Rattle.std.proofs.lemmas.Option.{slice_get-get_or}
use Rattle.frame_marks.proofs.Sending.{more_sent, all_sent}
use Rattle.frame_marks.proofs.carried.send_all.Goals as goal

pub actions-preserved : goal.actions-preserved
actions-preserved c =
    let next : c.actions.left ≡ c.actions.left - 1 + 1 = omega (arith, c.actions-test.true) in
    let low : c.actions.left - 1 < length c.args.actions.now = omega (arith, c.actions-test.true, c.actions.invariant.low) in
    record {
      low = omega (arith, c.actions.invariant.low);
      size = c.send.ensures.size;
      sent = more_sent c.args.plan.design.now c.args.plan.results.now c.args.plan.wires.now c.args.chips.now c.args.actions.now (c.actions.left - 1) c.actions.left next _
          (slice_get-get_or c.args.actions.now (c.actions.left - 1) _ low) c.args.carried.now c.actions.carried c.send.new.carried c.actions.invariant.sent c.send.ensures.sent;
    }

pub returns-clause-sent : goal.returns-clause-sent
returns-clause-sent c =
    let none : c.actions.left ≡ 0 = omega (arith, c.actions-test.false) in
    all_sent c.args.plan.design.now c.args.plan.results.now c.args.plan.wires.now c.args.chips.now c.args.actions.now c.actions.left none c.args.carried.now c.actions.carried c.actions.invariant.sent
