use Rattle.std.proofs.Common.{◌∙◌, ap, subst, sym}
use Rattle.std.specs.Prelude.{IsTrue, length}
use Rattle.design_core.specs.Design.{port_bits}
use Rattle.design_core.specs.Faults.{are_there}
use Rattle.settled_model.specs.Opening.{AreInputs}
use Rattle.event_replay.proofs.EventInputs.{inputs_of_ports}
use Rattle.event_replay.proofs.OutputBits.{outputs_there}
use Rattle.event_replay.proofs.settling.settle_line.Goals as goal

pub event-requires : goal.event-requires
event-requires g c =
    subst (λ p. AreInputs p c.args.event.now.values) (sym c.requires.design)
    (inputs_of_ports c.args.design.now c.args.event.now.values c.requires.inputs)

pub output_bits-requires : goal.output_bits-requires
output_bits-requires g c =
    let design = c.event.ensures.design ∙ c.requires.design in
    subst (λ ports. IsTrue (are_there (length c.values.result.now) (port_bits ports))) (sym (c.as_slice.ensures ∙ c.outputs.ensures))
    (outputs_there c.args.design.now (length c.values.result.now) c.stands.ensures.design
    (c.values.ensures.size ∙ ap (λ p. length p.net_names) design))
