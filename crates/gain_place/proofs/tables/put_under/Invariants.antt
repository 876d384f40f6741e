-- The number is put under the first heads.
use Rattle.std.proofs.Common.{take}
use Rattle.gain_place.specs.Lists.{HasUnder}
use Rattle.gain_place.proofs.tables.put_under.Given as goal

abbrev pub invariant-heads : goal.invariant-heads
invariant-heads l = HasUnder (take l.head-index l.heads) l.number l.initial.table.items l.table.items
