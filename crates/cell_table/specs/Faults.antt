-- The fault of a cell, beside the cells before it.
-- The rule is told in docs/FORMATS.md, "The cell table".
use Rattle.std.specs.Prelude.{◌≡◌, ℕ, List, length, not, Option, Some, None, Result, Ok, Err, is_some, option_map, if◌then◌else◌}
use Rattle.id_arena.specs.Names.{place_among}
use Rattle.serde_json.specs.Data.{Data}
use Rattle.json_members.specs.declared.text.JsonFault.{JsonFault}
use Rattle.json_members.specs.declared.text.JsonFault.TheVariants as json
use Rattle.cell_table.specs.Build.{built_of}
use Rattle.cell_table.specs.Judge.{tables_are_sized, is_within_limits}
use Rattle.cell_table.specs.Kinds.{written_of}
use Rattle.cell_table.specs.Pins.{pins_of, shared_pins, stands_twice}
use Rattle.cell_table.specs.declared.cell.Cell.{Cell}
use Rattle.cell_table.specs.declared.fault.CellFault.{CellFault}
use Rattle.cell_table.specs.declared.fault.CellFault.TheVariants.{NotJson, BadShape, PinTwice, TableSize, Limit, CellTwice, NoMemory}
use Rattle.cell_table.specs.declared.written.WrittenCell.{WrittenCell}

-- the first fault of a cell of good shape in a table of this version, where the cells before it have
-- these names
unfoldable pub written_fault : ℕ → List (List ℕ) → WrittenCell → Option CellFault
written_fault version names written =
    if stands_twice (pins_of version written.kind) (shared_pins version written.kind) then Some (PinTwice (length names))
    else (if not (tables_are_sized written.kind) then Some (TableSize (length names))
    else (if not (is_within_limits written.kind) then Some (Limit (length names))
    else (if is_some (place_among names written.name) then Some (CellTwice (length names)) else None)))

-- the same of what may be of bad shape
abbrev pub fault_beside : ℕ → List (List ℕ) → Option WrittenCell → Option CellFault
fault_beside version names None = Some (BadShape (Some (length names)))
fault_beside version names (Some written) = written_fault version names written

-- the first fault of the cell that a JSON value says, where the cells before it have these names
abbrev pub cell_fault : ℕ → List (List ℕ) → Data → Option CellFault
cell_fault version names d = fault_beside version names (written_of version d)

-- the cell that a JSON value says
abbrev pub cell_of : ℕ → Data → Option Cell
cell_of version d = option_map built_of (written_of version d)

-- an answer: Ok exactly where there is no fault, else the fault; want of memory may come anywhere
abbrev pub Judges : {A : Type 0} → Option CellFault → Result A CellFault → Type 0
Judges fault (Ok value) = fault ≡ None
Judges fault (Err NoMemory) = Unit {0}
Judges fault (Err found) = fault ≡ Some found

-- the fault of a cell table's text that a fault of JSON is
abbrev pub FromJson : JsonFault → CellFault → Type 0
FromJson json.NotJson fault = fault ≡ NotJson
FromJson json.NoMemory fault = fault ≡ NoMemory
