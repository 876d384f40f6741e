use Rattle.std.proofs.Common.{◌≡◌, ◌++◌, map, drop, get_or}
use Rattle.clock_rank.specs.Numbers.{net_node}
use Rattle.clock_rank.proofs.ranked.nodes_at.Given as goal

abbrev pub invariant-numbers : goal.invariant-numbers
invariant-numbers l =
    l.named ++ map (λ n. get_or l.nodes n (net_node 0)) (drop l.number-index l.numbers)
    ≡ map (λ n. get_or l.nodes n (net_node 0)) l.numbers
