use Rattle.std.proofs.Common.{◌≡◌, ◌++◌, drop}
use Rattle.std.specs.Prelude.{flat_map}
use Rattle.cell_table.specs.Pins.{read_pins}
use Rattle.cell_table.proofs.pins.Pins.add_reads.Given as goal

abbrev pub invariant-loop-read : goal.invariant-loop-read
invariant-loop-read l = l.self ++ flat_map read_pins (drop l.read-index l.reads) ≡ l.initial.self ++ flat_map read_pins l.reads
