use Rattle.std.proofs.Common.{◌≡◌, map}
use Rattle.std.specs.List.{range_with_len}
use Rattle.cell_parts.specs.Wires.{net_numbered}
use Rattle.cell_parts.proofs.wires.new_nets.Given as goal

abbrev pub invariant-nets : goal.invariant-nets
invariant-nets l = l.nets ≡ map net_numbered (range_with_len l.next l.k)
