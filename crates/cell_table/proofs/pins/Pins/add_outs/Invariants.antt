use Rattle.std.proofs.Common.{◌≡◌, ◌++◌, drop}
use Rattle.std.specs.Prelude.{flat_map}
use Rattle.cell_table.specs.Pins.{out_pins}
use Rattle.cell_table.proofs.pins.Pins.add_outs.Given as goal

abbrev pub invariant-loop-out : goal.invariant-loop-out
invariant-loop-out l = l.self ++ flat_map out_pins (drop l.out-index l.outs) ≡ l.initial.self ++ flat_map out_pins l.outs
