use Rattle.std.proofs.Common.{◌≡◌, ◌++◌, drop, map}
use Rattle.cell_parts.specs.Wires.{pin_at}
use Rattle.cell_parts.proofs.gates.pin_nets.Given as goal

abbrev pub invariant-pins : goal.invariant-pins
invariant-pins l = l.nets ++ map (pin_at l.wires) (drop l.pin-index l.pins) ≡ map (pin_at l.wires) l.pins
