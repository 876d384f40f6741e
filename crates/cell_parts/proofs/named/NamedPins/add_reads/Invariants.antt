use Rattle.std.proofs.Common.{◌≡◌, ◌++◌, drop}
use Rattle.std.specs.Prelude.{flat_map}
use Rattle.cell_parts.specs.Pins.{read_pins}
use Rattle.cell_parts.proofs.named.NamedPins.add_reads.Given as goal

abbrev pub invariant-reads : goal.invariant-reads
invariant-reads l =
    l.self ++ flat_map (read_pins l.address_bits l.width) (drop l.read-index l.reads) ≡ l.initial.self ++ flat_map (read_pins l.address_bits l.width) l.reads
