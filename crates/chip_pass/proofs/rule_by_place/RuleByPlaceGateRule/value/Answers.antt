use Rattle.std.proofs.Common.{◌∙◌, length}
use Rattle.gate_pass.specs.Gates.{value_on}
use Rattle.chip_pass.specs.Orders.{gate_at}
use Rattle.chip_pass.proofs.Passes.{gives_by_place, inputs_there, turn_is}
use Rattle.std.specs.Prelude.{slice_index}
use Rattle.chip_pass.proofs.rule_by_place.RuleByPlaceGateRule.value.Goals as goal

pub value-requires-clause-there : goal.value-requires-clause-there
value-requires-clause-there g c =
    inputs_there (length c.args.values.now) c.get-gate.result.now (gate_at c.args.self.now.chip.now (slice_index c.args.self.now.order.now.order c.args.gate)) c.args._inputs.now
    (turn_is c.args.self.now.chip.now c.args.self.now.order.now.order c.args.gate c.from.result c.get-gate.result.now (c.from.ensures ∙ c.at.ensures) c.get-gate.ensures)
    c.requires.known.reads c.requires.there

pub returns-clause-value : goal.returns-clause-value
returns-clause-value g c =
    c.value.ensures.value
    ∙ gives_by_place (g.R.ChipRule.gives c.args.self.now.rule.now) (value_on g.T.NetValue.none c.args.values.now) c.get-gate.result.now
    (gate_at c.args.self.now.chip.now (slice_index c.args.self.now.order.now.order c.args.gate)) c.args._inputs.now
    (turn_is c.args.self.now.chip.now c.args.self.now.order.now.order c.args.gate c.from.result c.get-gate.result.now (c.from.ensures ∙ c.at.ensures) c.get-gate.ensures)
    c.requires.known.reads
