use Rattle.std.proofs.Common.{◌≡◌, ◌+◌, ◌-◌, arith}
use Rattle.cycle_sim.specs.Passes.{rows_of}
use Rattle.cycle_sim.proofs.CatchingUp.{one_caught, all_caught}
use Rattle.cycle_sim.proofs.shown.show_taken.Goals as goal

pub actions-preserved : goal.actions-preserved
actions-preserved c =
    let next : c.actions.left ≡ c.actions.left - 1 + 1 = omega (arith, c.actions-test.true) in
    record {
      low = omega (arith, c.actions.invariant.low);
      passes = c.show_one.ensures.passes;
      shown =
          one_caught c.args.results.now c.args.wires.now c.args.held.now c.args.actions.now (c.actions.left - 1) c.actions.left next _ c.action_at.ensures
          (rows_of c.args.passes.now) (rows_of c.actions.passes) (rows_of c.show_one.new.passes) c.actions.invariant.shown c.show_one.ensures.shown;
    }

pub returns-clause-shown : goal.returns-clause-shown
returns-clause-shown c =
    let none : c.actions.left ≡ 0 = omega (arith, c.actions-test.false) in
    all_caught c.args.results.now c.args.wires.now c.args.held.now c.args.actions.now c.actions.left none (rows_of c.args.passes.now) (rows_of c.actions.passes) c.actions.invariant.shown
