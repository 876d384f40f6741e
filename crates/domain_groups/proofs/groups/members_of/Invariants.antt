use Rattle.domain_groups.proofs.MemberRows.{FirstRows}
use Rattle.domain_groups.proofs.groups.members_of.Given as goal

abbrev pub invariant-groups : goal.invariant-groups
invariant-groups l = FirstRows l.groups l.nets l.members l.k
