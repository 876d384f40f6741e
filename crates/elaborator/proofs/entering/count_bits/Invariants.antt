use Rattle.std.proofs.Common.{◌≡◌, ◌≤◌, take}
use Rattle.elaborator.specs.Walk.{bit_count}
use Rattle.elaborator.proofs.entering.count_bits.Given as goal

abbrev pub invariant-nets : goal.invariant-nets
invariant-nets l = (l.count ≡ bit_count (take l.place l.nets.rows)) × (l.place ≤ l.count) × (l.count ≤ 400000)
