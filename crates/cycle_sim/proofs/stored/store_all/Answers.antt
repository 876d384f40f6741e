use Rattle.std.proofs.Common.{◌≡◌, ◌+◌, ◌-◌, arith}
use Rattle.cycle_sim.specs.Passes.{rows_of}
use Rattle.cycle_sim.proofs.Storing.{one_stored, all_stored}
use Rattle.cycle_sim.proofs.stored.store_all.Goals as goal

pub actions-preserved : goal.actions-preserved
actions-preserved c =
    let next : c.actions.left ≡ c.actions.left - 1 + 1 = omega (arith, c.actions-test.true) in
    record {
      low = omega (arith, c.actions.invariant.low);
      sizes = c.store.ensures.sizes;
      stored = one_stored c.args.results.now (rows_of c.args.shown.now) c.args.actions.now (c.actions.left - 1) c.actions.left next _ c.action_at.ensures _ c.actions.words c.store.new.words c.actions.invariant.stored c.store.ensures.stored;
    }

pub returns-clause-stored : goal.returns-clause-stored
returns-clause-stored c =
    let none : c.actions.left ≡ 0 = omega (arith, c.actions-test.false) in
    all_stored c.args.results.now (rows_of c.args.shown.now) c.args.actions.now c.actions.left none _ c.actions.words c.actions.invariant.stored
