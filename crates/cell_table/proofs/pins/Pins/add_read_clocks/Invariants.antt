use Rattle.std.proofs.Common.{◌≡◌, ◌++◌, drop}
use Rattle.std.specs.Prelude.{flat_map}
use Rattle.cell_table.specs.Pins.{edge_pins}
use Rattle.cell_table.proofs.pins.Pins.add_read_clocks.Given as goal

abbrev pub invariant-loop-read : goal.invariant-loop-read
invariant-loop-read l = l.self ++ flat_map (λ r. edge_pins r.clock) (drop l.read-index l.reads) ≡ l.initial.self ++ flat_map (λ r. edge_pins r.clock) l.reads
