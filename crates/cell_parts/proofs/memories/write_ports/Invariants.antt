use Rattle.std.proofs.Common.{◌≡◌, ◌++◌, drop, map}
use Rattle.cell_parts.specs.CellStates.{write_port}
use Rattle.cell_parts.proofs.memories.write_ports.Given as goal

abbrev pub invariant-writes : goal.invariant-writes
invariant-writes l = l.ports ++ map (write_port l.wires) (drop l.write-index l.writes) ≡ map (write_port l.wires) l.writes
