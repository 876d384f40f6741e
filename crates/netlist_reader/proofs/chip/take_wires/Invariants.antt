use Rattle.std.proofs.Common.{◌≡◌, ◌++◌, length}
use Rattle.netlist_reader.specs.Netlist.{wires}
use Rattle.netlist_reader.proofs.chip.take_wires.Given as goal

abbrev pub invariant-wires : goal.invariant-wires
invariant-wires l = l.fn.rest ≡ wires l.nets ++ l.rest

abbrev pub decreases-wires : goal.decreases-wires
decreases-wires l = length l.rest
