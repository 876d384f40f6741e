use Rattle.std.proofs.Common.{◌≡◌, ◌++◌, drop}
use Rattle.module_bits.specs.Bits.{times}
use Rattle.module_bits.proofs.reading.push_copies.Given as goal

abbrev pub invariant-copies : goal.invariant-copies
invariant-copies l = l.out ≡ l.initial.out ++ times l.counter (drop l.start l.initial.out)
