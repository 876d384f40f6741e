use Rattle.std.proofs.Common.{◌≡◌, ◌++◌, drop}
use Rattle.design_core.specs.Design.{port_bits}
use Rattle.domain_groups.proofs.read.all_nets.Given as goal

abbrev pub invariant-ports : goal.invariant-ports
invariant-ports l = l.nets ++ port_bits (drop l.port-index l.ports) ≡ port_bits l.ports
