use Rattle.std.proofs.Common.{◌≡◌, ◌++◌, drop, map}
use Rattle.cell_parts.specs.Pins.{bit_pin}
use Rattle.cell_parts.proofs.named.NamedPins.add_bits.Given as goal

abbrev pub invariant-names : goal.invariant-names
invariant-names l = l.self ++ map bit_pin (drop l.name-index l.names) ≡ l.initial.self ++ map bit_pin l.names
