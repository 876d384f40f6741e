use Rattle.std.proofs.Common.{◌≡◌, drop}
use Rattle.domain_groups.specs.Judged.{is_taken}
use Rattle.domain_groups.proofs.read.is_taken.Given as goal

abbrev pub invariant-groups : goal.invariant-groups
invariant-groups l = is_taken (drop l.group-index l.groups) l.name ≡ is_taken l.groups l.name
