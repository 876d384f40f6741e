-- The cell that a written cell stands for: its tables as numbers, all else as it is.
-- The rule is told in docs/FORMATS.md, "The cell table".
use Rattle.std.specs.Prelude.{◌+◌, ◌*◌, ℕ, List, [], ◌∷◌, map, Bool, if◌then◌else◌}
use Rattle.cell_table.specs.declared.cell.Cell.{Cell}
use Rattle.cell_table.specs.declared.cell.CellKind.{CellKind}
use Rattle.cell_table.specs.declared.cell.CellKind.TheVariants as cell
use Rattle.cell_table.specs.declared.cell.CombOut.{CombOut}
use Rattle.cell_table.specs.declared.cell.FeedPin.{FeedPin}
use Rattle.cell_table.specs.declared.cell.FeedPin.TheVariants as feed
use Rattle.cell_table.specs.declared.written.WrittenCell.{WrittenCell}
use Rattle.cell_table.specs.declared.written.WrittenFeed.{WrittenFeed}
use Rattle.cell_table.specs.declared.written.WrittenFeed.TheVariants.{Pin, Table}
use Rattle.cell_table.specs.declared.written.WrittenKind.{WrittenKind}
use Rattle.cell_table.specs.declared.written.WrittenKind.TheVariants.{Comb, Flop, Latch, GateClock, Memory}
use Rattle.cell_table.specs.declared.written.WrittenOut.{WrittenOut}

-- the number that has these bits, the first of them as its bit 0
abbrev pub number_of : List Bool → ℕ
number_of [] = 0
number_of (bit ∷ bits) = (if bit then 1 else 0) + 2 * number_of bits

-- an output with its table as a number
abbrev pub comb_out_of : WrittenOut → CombOut
comb_out_of out = record { pin = out.pin; table = number_of out.table }

-- what feeds a flip-flop or a latch, with a table as a number
abbrev pub feed_pin_of : WrittenFeed → FeedPin
feed_pin_of (Pin pin) = feed.Pin pin
feed_pin_of (Table pins table) = feed.Table pins (number_of table)

-- the kind with its tables as numbers
unfoldable pub cell_kind_of : WrittenKind → CellKind
cell_kind_of (Comb inputs outputs) = cell.Comb inputs (map comb_out_of outputs)
cell_kind_of (Flop clock s) = cell.Flop clock (feed_pin_of s.feed) s.clear s.preset s.q s.qn
cell_kind_of (Latch gate s) = cell.Latch gate (feed_pin_of s.feed) s.clear s.preset s.q s.qn
cell_kind_of (GateClock clock enable test output) = cell.GateClock clock enable test output
cell_kind_of (Memory address_bits width writes reads) = cell.Memory address_bits width writes reads

-- the cell with its tables as numbers
abbrev pub built_of : WrittenCell → Cell
built_of written = record { name = written.name; kind = cell_kind_of written.kind }
