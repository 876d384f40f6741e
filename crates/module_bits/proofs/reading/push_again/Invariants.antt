use Rattle.std.proofs.Common.{◌≡◌, ◌++◌, ◌≤◌, slice_range}
use Rattle.module_bits.proofs.reading.push_again.Given as goal

abbrev pub invariant-items : goal.invariant-items
invariant-items l = (l.start ≤ l.place) × (l.place ≤ l.end) × (l.out ≡ l.initial.out ++ slice_range l.initial.out l.start l.place)
