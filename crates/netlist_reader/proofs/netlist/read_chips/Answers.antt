use Rattle.std.proofs.Common.{rules}
use Rattle.netlist_reader.proofs.Chips.{chips_apart, more_stands, netlist_stops}
use Rattle.netlist_reader.proofs.netlist.read_chips.Goals as goal

pub read_lines-requires-clause-apart : goal.read_lines-requires-clause-apart
read_lines-requires-clause-apart c = chips_apart

pub returns-in_err-chips : goal.returns-in_err-chips
returns-in_err-chips c = netlist_stops _ _ _ _ c.from_residual.ensures c.in_err-chips.ensures

pub returns-then-left-gt0 : goal.returns-then-left-gt0
returns-then-left-gt0 c = more_stands c.in_ok-chips.chips _ _ c.in_ok-chips.ensures (search rules)
