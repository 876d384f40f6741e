use Rattle.std.proofs.Common.{length}
use Rattle.netlist_reader.specs.Inside.{Opened}
use Rattle.netlist_reader.proofs.pins.take_pins.Given as goal

abbrev pub invariant-pins : goal.invariant-pins
invariant-pins l = Opened l.room l.fn.rest l.rest l.pins

abbrev pub decreases-pins : goal.decreases-pins
decreases-pins l = length l.rest
