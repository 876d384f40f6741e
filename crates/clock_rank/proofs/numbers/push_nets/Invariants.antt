use Rattle.std.proofs.Common.{◌≡◌, ◌++◌, map}
use Rattle.std.specs.List.{range_with_len}
use Rattle.clock_rank.specs.Numbers.{net_node}
use Rattle.clock_rank.proofs.numbers.push_nets.Given as goal

abbrev pub invariant-nets : goal.invariant-nets
invariant-nets l = l.nodes.items ≡ l.initial.nodes.items ++ map net_node (range_with_len 0 l.n)
