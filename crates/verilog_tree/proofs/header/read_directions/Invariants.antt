use Rattle.std.proofs.Common.{◌-◌, length}
use Rattle.verilog_tree.proofs.Headers.{PortsSo}
use Rattle.verilog_tree.proofs.header.read_directions.Given as goal

abbrev pub invariant-ports : goal.invariant-ports
invariant-ports l = PortsSo l.reader l.from l.at l.last l.ports

abbrev pub decreases-ports : goal.decreases-ports
decreases-ports l = length l.reader - l.at
