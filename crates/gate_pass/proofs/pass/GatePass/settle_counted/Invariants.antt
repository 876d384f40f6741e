use Rattle.std.proofs.Common.{◌≤◌, ◌-◌, length}
use Rattle.gate_pass.specs.Inside.{IsInPass, HaveCounted}
use Rattle.gate_pass.proofs.pass.GatePass.settle_counted.Given as goal

abbrev pub invariant-turns : goal.invariant-turns
invariant-turns g l = record {
  under_way : IsInPass (g.R.GateRule.gives l.rule) g.T.NetValue.none l.initial.self l.self l.at;
  counted : HaveCounted g.T.NetValue.none l.initial.self l.self l.at l.initial.steps l.steps;
  within : l.at ≤ length l.self.outputs;
}

abbrev pub decreases-turns : goal.decreases-turns
decreases-turns g l = length l.self.outputs - l.at
