use Rattle.std.proofs.Common.{◌≡◌, rules, subst}
use Rattle.netlist_reader.specs.Inside.{Begins}
use Rattle.netlist_reader.proofs.WireLines.{count_fits, wires_more, wires_stop}
use Rattle.netlist_reader.proofs.chip.take_wires.Goals as goal

pub returns-in_err-take_all : goal.returns-in_err-take_all
returns-in_err-take_all c =
    wires_stop c.wires.nets _ _ _ _ _ c.from_residual.ensures c.requires c.wires.invariant
    (subst (λ w. Begins (λ first. first ≡ w) c.wires.rest) c.key.ensures (c.begins.ensures.0 c.wires-test.true)) c.in_err-take_all.ensures

pub overflow_add-nets : goal.overflow_add-nets
overflow_add-nets c =
    let fits = count_fits c.wires.nets _ c.wires.rest c.requires c.wires.invariant
    (subst (λ w. Begins (λ first. first ≡ w) c.wires.rest) c.key.ensures (c.begins.ensures.0 c.wires-test.true)) in search rules

pub wires-preserved : goal.wires-preserved
wires-preserved c = wires_more c.wires.nets _ _ _ c.wires.invariant c.in_ok-take_all.ensures.1
