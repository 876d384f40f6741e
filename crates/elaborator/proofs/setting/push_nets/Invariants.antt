use Rattle.std.proofs.Common.{◌≡◌, ◌++◌, map}
use Rattle.std.specs.List.{range_with_len}
use Rattle.module_bits.specs.Bits.{net_at}
use Rattle.elaborator.proofs.setting.push_nets.Given as goal

abbrev pub invariant-nets : goal.invariant-nets
invariant-nets l = l.bits ≡ l.initial.bits ++ map net_at (range_with_len l.low l.k)
