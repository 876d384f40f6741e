use Rattle.std.proofs.Common.{◌≡◌, ◌+◌, ◌-◌, arith}
use Rattle.cycle_sim.specs.Passes.{rows_of}
use Rattle.cycle_sim.proofs.Taking.{one_taken, all_taken}
use Rattle.cycle_sim.proofs.taken.take_all.Goals as goal

pub actions-preserved : goal.actions-preserved
actions-preserved c =
    let next : c.actions.left ≡ c.actions.left - 1 + 1 = omega (arith, c.actions-test.true) in
    record {
      low = omega (arith, c.actions.invariant.low);
      sizes = c.take.ensures.sizes;
      taken = one_taken c.args.results.now _ (rows_of c.args.shown.now) _ _ _ c.args.actions.now (c.actions.left - 1) c.actions.left next _ c.action_at-action.ensures _ c.actions.held c.take.new.held c.actions.invariant.taken c.take.ensures.taken;
    }

pub returns-clause-taken : goal.returns-clause-taken
returns-clause-taken c =
    let none : c.actions.left ≡ 0 = omega (arith, c.actions-test.false) in
    all_taken c.args.results.now _ (rows_of c.args.shown.now) _ _ _ c.args.actions.now c.actions.left none _ c.actions.held c.actions.invariant.taken
