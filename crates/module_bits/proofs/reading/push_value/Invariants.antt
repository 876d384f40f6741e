use Rattle.std.proofs.Common.{◌≡◌, ◌++◌, ◌/◌, ◌^◌, map}
use Rattle.std.specs.Int.{bit_at}
use Rattle.std.specs.List.{range_with_len}
use Rattle.module_bits.specs.Bits.{net_at}
use Rattle.module_bits.proofs.reading.push_value.Given as goal

abbrev pub invariant-bits : goal.invariant-bits
invariant-bits l = (l.rest ≡ l.value / 2 ^ l.counter) × (l.out ≡ l.initial.out ++ map (λ i. net_at (bit_at l.value i)) (range_with_len 0 l.counter))
