-- Inside: what the program knows of each cell before any instance of it is made.
use Rattle.std.specs.Prelude.{◌≡◌, List, map}
use Rattle.cell_table.specs.declared.cell.Cell.{Cell}
use Rattle.cell_parts.specs.Pins.{pins_of}
use Rattle.flattening.specs.Cells.{pin_sockets}
use Rattle.flattening.specs.Places.{Given}
use Rattle.elaborator.specs.declared.cells.ReadyCell.{ReadyCell}
use Rattle.elaborator.specs.declared.cells.ReadyCells.{ReadyCells}

-- the pins of a cell, as an instance connects them, and as pins
abbrev pub ready_of : Cell → ReadyCell
ready_of cell = record { sockets = pin_sockets (pins_of cell.kind); pins = pins_of cell.kind }

-- each cell of the table has its row, in their order
abbrev pub AreReadyCells : Given → ReadyCells → Type 0
AreReadyCells g ready = ready.rows ≡ map ready_of g.cells
