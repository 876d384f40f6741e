use Rattle.std.proofs.Common.{◌≡◌, ◌++◌, drop, flat_map}
use Rattle.netlist_writer.specs.NetlistText.{write_pins}
use Rattle.netlist_writer.specs.Shown.{shown, goes_on}
use Rattle.netlist_writer.proofs.instance.push_writes.Given as goal

-- what is there, and the terminals of the ports that are left, are all
abbrev pub invariant-ports : goal.invariant-ports
invariant-ports l =
    (l.text.items ++ shown l.more (flat_map write_pins (drop l.port-index l.ports)) ≡ l.initial.text.items ++ shown l.initial.more (flat_map write_pins l.ports))
    × (goes_on l.more (flat_map write_pins (drop l.port-index l.ports)) ≡ goes_on l.initial.more (flat_map write_pins l.ports))
