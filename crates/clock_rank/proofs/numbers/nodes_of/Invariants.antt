use Rattle.std.proofs.Common.{◌≡◌, ◌++◌, map, take}
use Rattle.std.specs.List.{range_with_len}
use Rattle.design_core.specs.Design.{net_count}
use Rattle.clock_rank.specs.Numbers.{net_node, memory_nodes}
use Rattle.clock_rank.proofs.numbers.nodes_of.Given as goal

abbrev pub invariant-memories : goal.invariant-memories
invariant-memories l =
    l.nodes.items ≡ map net_node (range_with_len 0 (net_count l.design)) ++ memory_nodes 0 (take l.m l.design.memories)
