use Rattle.std.proofs.Common.{◌≡◌, ◌+◌, ◌-◌, arith}
use Rattle.cycle_sim.specs.Passes.{rows_of}
use Rattle.cycle_sim.proofs.Sending.{one_sent, all_sent}
use Rattle.cycle_sim.proofs.sent.send_all.Goals as goal

pub actions-preserved : goal.actions-preserved
actions-preserved c =
    let next : c.actions.left ≡ c.actions.left - 1 + 1 = omega (arith, c.actions-test.true) in
    record {
      low = omega (arith, c.actions.invariant.low);
      size = c.send.ensures.size;
      sent = λ r. one_sent r _ (rows_of c.args.shown.now) c.args.actions.now (c.actions.left - 1) c.actions.left next _ c.action_at.ensures _ c.actions.carried c.send.new.carried (c.actions.invariant.sent r) (c.send.ensures.sent r);
    }

pub returns-clause-sent : goal.returns-clause-sent
returns-clause-sent c =
    let none : c.actions.left ≡ 0 = omega (arith, c.actions-test.false) in
    λ r. all_sent r _ (rows_of c.args.shown.now) c.args.actions.now c.actions.left none _ c.actions.carried (c.actions.invariant.sent r)
