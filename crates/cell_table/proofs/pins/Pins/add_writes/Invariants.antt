use Rattle.std.proofs.Common.{◌≡◌, ◌++◌, drop}
use Rattle.std.specs.Prelude.{flat_map}
use Rattle.cell_table.specs.Pins.{write_pins}
use Rattle.cell_table.proofs.pins.Pins.add_writes.Given as goal

abbrev pub invariant-loop-write : goal.invariant-loop-write
invariant-loop-write l = l.self ++ flat_map write_pins (drop l.write-index l.writes) ≡ l.initial.self ++ flat_map write_pins l.writes
