use Rattle.std.proofs.Common.{◌≡◌, ◌++◌, drop}
use Rattle.cell_table.proofs.pins.Pins.add_all.Given as goal

abbrev pub invariant-loop-pin : goal.invariant-loop-pin
invariant-loop-pin l = l.self ++ drop l.pin-index l.pins ≡ l.initial.self ++ l.pins
