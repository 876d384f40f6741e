use Rattle.std.proofs.Common.{◌≡◌, ◌++◌, ◌-◌, flat_map}
use Rattle.std.specs.List.{range_with_len}
use Rattle.netlist_writer.specs.NetlistText.{wire_text}
use Rattle.netlist_writer.proofs.netlist.push_wires.Given as goal

-- what is there, and the lines of the nets that are left, are all
abbrev pub invariant-nets : goal.invariant-nets
invariant-nets l =
    l.text.items ++ flat_map wire_text (range_with_len l.net (l.nets - l.net)) ≡ l.initial.text.items ++ flat_map wire_text (range_with_len 0 l.nets)
