use Rattle.std.proofs.Common.{◌≡◌, ◌++◌, ◌+◌, map}
use Rattle.std.specs.List.{range_with_len}
use Rattle.clock_rank.proofs.needs.add_numbers.Given as goal

abbrev pub invariant-numbers : goal.invariant-numbers
invariant-numbers l = l.row.items ≡ l.initial.row.items ++ map (λ k. l.start + k) (range_with_len 0 l.k)
