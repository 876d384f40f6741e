use Rattle.std.proofs.Common.{◌≡◌, ◌++◌, drop}
use Rattle.cell_table.specs.Pins.{others}
use Rattle.cell_table.proofs.pins.Pins.add_others.Given as goal

abbrev pub invariant-loop-pin : goal.invariant-loop-pin
invariant-loop-pin l = l.self ++ others l.q (drop l.pin-index l.pins) ≡ l.initial.self ++ others l.q l.pins
