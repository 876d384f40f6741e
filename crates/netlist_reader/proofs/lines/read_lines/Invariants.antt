use Rattle.std.proofs.Common.{◌≡◌, ◌++◌, length}
use Rattle.netlist_reader.specs.Netlist.{Each, lines}
use Rattle.netlist_reader.proofs.lines.read_lines.Given as goal

abbrev pub invariant-items : goal.invariant-items
invariant-items g l =
    Each (g.T.Line.Is l.nets) l.items × (l.fn.rest ≡ lines g.T.Line.line l.items ++ l.rest)

abbrev pub decreases-items : goal.decreases-items
decreases-items g l = length l.rest
