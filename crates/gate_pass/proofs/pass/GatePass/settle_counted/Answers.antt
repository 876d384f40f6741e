use Rattle.std.proofs.Common.{◌≡◌, ◌<◌, length, ap, arith}
use Rattle.std.specs.Prelude.{Some}
use Rattle.link_rows.specs.BitRows.{IsFirstClear}
use Rattle.gate_pass.proofs.Turns.{one_had_turn, one_counted}
use Rattle.gate_pass.proofs.pass.GatePass.settle_counted.Goals as goal

pub overflow_add-at : goal.overflow_add-at
overflow_add-at g c =
    let low : c.in-Some.gate < length c.turns.self.idle = c.in-Some.ensures.waits.1 in
    omega (arith, low, c.in-Some.ensures.gates, c.in-Some.ensures.few)

pub turns-preserved : goal.turns-preserved
turns-preserved g c =
    let first : IsFirstClear c.turns.self.idle c.turns.at (Some c.in-Some.gate) = c.in-Some.ensures.waits in
    let low : c.in-Some.gate < length c.turns.self.outputs = omega (arith, first.1, c.in-Some.ensures.gates) in
    record {
      under_way = one_had_turn (g.R.GateRule.gives c.args.rule.now) g.T.NetValue.none c.args.self.now c.turns.self c.take_turn.new.self c.in-Some.ensures.ranked c.turns.at c.in-Some.gate
          c.turns.invariant.under_way low first c.in-Some.ensures.gates c.take_turn.ensures.turn;
      counted = one_counted (g.R.GateRule.gives c.args.rule.now) g.T.NetValue.none c.args.self.now c.turns.self c.take_turn.new.self c.in-Some.ensures.ranked c.turns.at c.in-Some.gate
          c.turns.invariant.under_way low first c.in-Some.ensures.gates c.take_turn.ensures.turn c.args.steps.now c.turns.steps c.take_turn.new.steps c.turns.invariant.counted c.take_turn.ensures.steps;
      within = let same : length c.take_turn.new.self.outputs ≡ length c.turns.self.outputs = ap length c.take_turn.ensures.turn.outputs in omega (arith, same, low);
    }
