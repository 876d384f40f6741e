use Rattle.std.proofs.Common.{◌≡◌, ◌++◌, drop, map}
use Rattle.cell_parts.specs.CellStates.{read_port}
use Rattle.cell_parts.proofs.memories.read_ports.Given as goal

abbrev pub invariant-reads : goal.invariant-reads
invariant-reads l = l.ports ++ map (read_port l.wires) (drop l.read-index l.reads) ≡ map (read_port l.wires) l.reads
