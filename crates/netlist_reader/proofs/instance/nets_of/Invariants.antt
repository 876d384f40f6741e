use Rattle.std.proofs.Common.{◌≡◌, take}
use Rattle.netlist_reader.proofs.instance.nets_of.Given as goal

abbrev pub invariant-nets : goal.invariant-nets
invariant-nets l = l.list ≡ take l.net-index l.nets
