use Rattle.cell_parts.proofs.Tying.{wires_are}
use Rattle.cell_parts.proofs.wires.Wires.new.Goals as goal

pub returns : goal.returns
returns c =
    wires_are c.as_slice.result.now c.args.pins.now c.args.ties c.tie_rest.new.ties c.from.result c.args.next c.as_slice.ensures c.from.ensures c.requires.together c.in_ok-tie_rest.ensures
