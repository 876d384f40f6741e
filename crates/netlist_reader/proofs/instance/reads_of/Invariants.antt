use Rattle.std.proofs.Common.{◌-◌}
use Rattle.netlist_reader.specs.Cuts.{ReadsSoFar}
use Rattle.netlist_reader.proofs.instance.reads_of.Given as goal

abbrev pub invariant-ports : goal.invariant-ports
invariant-ports l = ReadsSoFar l.fn.shape l.fn.pins l.left (l.fn.shape.reads - l.counter) l.reads
