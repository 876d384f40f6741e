use Rattle.std.proofs.Common.{◌≡◌, ◌++◌, drop}
use Rattle.domain_groups.proofs.read.add_nets.Given as goal

abbrev pub invariant-more : goal.invariant-more
invariant-more l = l.nets ++ drop l.net-index l.more ≡ l.initial.nets ++ l.more
