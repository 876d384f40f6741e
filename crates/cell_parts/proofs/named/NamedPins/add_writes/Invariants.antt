use Rattle.std.proofs.Common.{◌≡◌, ◌++◌, drop}
use Rattle.std.specs.Prelude.{flat_map}
use Rattle.cell_parts.specs.Pins.{write_pins}
use Rattle.cell_parts.proofs.named.NamedPins.add_writes.Given as goal

abbrev pub invariant-writes : goal.invariant-writes
invariant-writes l =
    l.self ++ flat_map (write_pins l.address_bits l.width) (drop l.write-index l.writes) ≡ l.initial.self ++ flat_map (write_pins l.address_bits l.width) l.writes
