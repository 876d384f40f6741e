use Rattle.std.proofs.Common.{◌∙◌}
use Rattle.event_replay.proofs.Told.{bits_told}
use Rattle.event_replay.proofs.events.read_events.Goals as goal

pub returns-clause-bits : goal.returns-clause-bits
returns-clause-bits c =
    bits_told c.args.design.now c.args.groups.now c.in_ok-ports.ports c.args.bytes.now c.read_lines.result c.stands.ensures.design (c.in_ok-ports.ensures ∙ c.as_slice-inputs.ensures ∙ c.inputs.ensures) c.read_lines.ensures
