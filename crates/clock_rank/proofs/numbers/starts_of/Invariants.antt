use Rattle.std.proofs.Common.{◌≡◌}
use Rattle.clock_rank.specs.Numbers.{first_write, AreStarts}
use Rattle.clock_rank.proofs.numbers.starts_of.Given as goal

abbrev pub invariant-memories : goal.invariant-memories
invariant-memories l = record {
  starts : AreStarts l.design l.m l.starts.items;
  next : l.next ≡ first_write l.design l.m;
}
