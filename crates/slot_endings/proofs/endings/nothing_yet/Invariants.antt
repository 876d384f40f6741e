use Rattle.std.proofs.Common.{◌≡◌, [], replicate}
use Rattle.slot_endings.proofs.endings.nothing_yet.Given as goal

abbrev pub invariant-slots : goal.invariant-slots
invariant-slots l = l.endings.items ≡ replicate l.counter []
