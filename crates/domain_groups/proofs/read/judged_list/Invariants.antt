-- The first groups have no fault, their ports are marked, and they are what they stand for.
use Rattle.std.proofs.Common.{◌≡◌, map, take, length}
use Rattle.domain_groups.specs.Judged.{FirstAreSound, group_of, ports_of}
use Rattle.domain_groups.specs.Judging.{Marks}
use Rattle.domain_groups.specs.Members.{seen}
use Rattle.domain_groups.proofs.read.judged_list.Given as goal

abbrev pub invariant-groups : goal.invariant-groups
invariant-groups l = record {
  sound : FirstAreSound l.ports l.written l.k;
  size : length l.marks.items ≡ length l.ports;
  marks : Marks l.marks.items (ports_of l.ports (take l.k l.written));
  are : map seen l.groups ≡ map (group_of l.ports) (take l.k l.written);
}
