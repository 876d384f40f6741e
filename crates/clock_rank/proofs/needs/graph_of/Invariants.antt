use Rattle.std.proofs.Common.{◌≡◌, map, take}
use Rattle.clock_rank.specs.Numbers.{row_of}
use Rattle.clock_rank.proofs.needs.graph_of.Given as goal

abbrev pub invariant-nodes : goal.invariant-nodes
invariant-nodes l = l.graph ≡ map (row_of l.design) (take l.node-index l.nodes)
