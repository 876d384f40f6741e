use Rattle.std.proofs.Common.{◌≡◌, ◌++◌}
use Rattle.clock_rank.specs.Numbers.{port_nodes}
use Rattle.clock_rank.proofs.numbers.push_writes.Given as goal

abbrev pub invariant-ports : goal.invariant-ports
invariant-ports l = l.nodes.items ≡ l.initial.nodes.items ++ port_nodes l.m l.port
