use Rattle.std.proofs.Common.{◌≡◌, take}
use Rattle.flattening.specs.Cells.{pin_sockets}
use Rattle.elaborator.proofs.cells.pin_sockets.Given as goal

abbrev pub invariant-pins : goal.invariant-pins
invariant-pins l = l.sockets ≡ pin_sockets (take l.pin-index l.pins)
