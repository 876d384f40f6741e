use Rattle.std.proofs.Common.{◌-◌}
use Rattle.netlist_reader.specs.Cuts.{WritesSoFar}
use Rattle.netlist_reader.proofs.instance.writes_of.Given as goal

abbrev pub invariant-ports : goal.invariant-ports
invariant-ports l = WritesSoFar l.fn.shape l.fn.pins l.left (l.fn.shape.writes - l.counter) l.writes
