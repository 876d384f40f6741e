use Rattle.std.proofs.Common.{◌≡◌, ◌++◌, drop, flat_map}
use Rattle.std.specs.List.{enumerate_from}
use Rattle.netlist_writer.specs.NetlistText.{lines}
use Rattle.netlist_writer.proofs.lines.push_lines.Given as goal

-- what is there, and the texts of the items that are left, are all
abbrev pub invariant-items : goal.invariant-items
invariant-items g l =
    l.text.items ++ flat_map g.T.Printed.line (enumerate_from l.place (drop l.place l.items)) ≡ l.initial.text.items ++ lines g.T.Printed.line l.items
