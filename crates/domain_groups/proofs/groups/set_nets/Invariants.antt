-- The bits of the first nets are set.
use Rattle.std.proofs.Common.{take}
use Rattle.domain_groups.specs.Members.{SetsNets}
use Rattle.domain_groups.proofs.groups.set_nets.Given as goal

abbrev pub invariant-nets : goal.invariant-nets
invariant-nets l = SetsNets l.initial.table l.table l.row (take l.net-index l.nets)
