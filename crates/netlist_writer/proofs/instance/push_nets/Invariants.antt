use Rattle.std.proofs.Common.{◌≡◌, ◌++◌, drop}
use Rattle.netlist_writer.specs.Shown.{shown, goes_on}
use Rattle.netlist_writer.proofs.instance.push_nets.Given as goal

-- what is there, and the terminals that are left, are all
abbrev pub invariant-nets : goal.invariant-nets
invariant-nets l =
    (l.text.items ++ shown l.more (drop l.net-index l.nets) ≡ l.initial.text.items ++ shown l.initial.more l.nets)
    × (goes_on l.more (drop l.net-index l.nets) ≡ goes_on l.initial.more l.nets)
