-- The table that a text stands for, or why it stands for none.
-- The rule is told in docs/FORMATS.md, "The cell table".
use Rattle.std.specs.Prelude.{◌≡◌, ◌≢◌, ◌==◌, ◌||◌, IsTrue, is_some, if◌then◌else◌, ℕ, List, length, map, take, slice_get, codes, option_map, Option, Some, None, Result, Ok, Err}
use Rattle.serde_json.specs.Data.{Data}
use Rattle.json_members.specs.JsonText.{IsTextOf, IsNoJson}
use Rattle.json_members.specs.Members.{◌>>=◌, all_of, array_member, data_of, word_member}
use Rattle.cell_table.specs.Faults.{cell_fault, cell_of}
use Rattle.cell_table.specs.declared.cell.Cell.{Cell}
use Rattle.cell_table.specs.declared.fault.CellFault.{CellFault}
use Rattle.cell_table.specs.declared.fault.CellFault.TheVariants.{NotJson, Version, BadShape, NoMemory}

-- the names of cells, in order
abbrev pub names_of : List Cell → List (List ℕ)
names_of cells = map (λ cell. cell.name) cells

-- the cells that JSON values say in a table of this version, none of which has a fault beside those
-- before it
pub record IsTable (version : ℕ) (ds : List Data) (cells : List Cell) : Type 0 where
  pub said : all_of (cell_of version) ds ≡ Some cells
  pub sound : (k : ℕ) (d : Data) → slice_get ds k ≡ Some d → cell_fault version (names_of (take k cells)) d ≡ None

-- the fault of the first of the values that has one: those before it are a table
pub record IsFirstFault (version : ℕ) (ds : List Data) (fault : CellFault) : Type 0 where
  pub before : List Cell
  pub table : IsTable version (take (length before) ds) before
  pub faulty : Data
  pub there : slice_get ds (length before) ≡ Some faulty
  pub is : cell_fault version (names_of before) faulty ≡ Some fault

-- what a list of JSON values stands for in a table of this version
abbrev pub ListStands : ℕ → List Data → Result (List Cell) CellFault → Type 0
ListStands version ds (Ok cells) = IsTable version ds cells
ListStands version ds (Err NoMemory) = Unit {0}
ListStands version ds (Err fault) = IsFirstFault version ds fault

-- the number that is the member `version`, if it is 1 or 2
unfoldable pub version_of : Data → Option ℕ
version_of d = do
  version ← word_member (codes "version") d
  if version == 1 || version == 2 then Some version else None

-- the version, and the values in the member `cells`
pub record HasItems (d : Data) (version : ℕ) (ds : List Data) : Type 0 where
  pub version_is : version_of d ≡ Some version
  pub items : option_map data_of (array_member (codes "cells") d) ≡ Some ds

-- what a JSON value stands for: `version` is 1 or 2, and `cells` is a list of cells
abbrev pub ValueStands : Data → Result (List Cell) CellFault → Type 0
ValueStands d (Err NotJson) = ⊥
ValueStands d (Err Version) = version_of d ≡ None
ValueStands d (Err (BadShape None)) = IsTrue (is_some (version_of d)) × (array_member (codes "cells") d ≡ None)
ValueStands d (Err NoMemory) = Unit {0}
ValueStands d result = (version : ℕ) × (ds : List Data) × HasItems d version ds × ListStands version ds result

-- what a text stands for: NotJson exactly where it is no JSON text, else what its value stands for
abbrev pub Stands : List ℕ → Result (List Cell) CellFault → Type 0
Stands bytes (Err NotJson) = IsNoJson bytes
Stands bytes (Err NoMemory) = Unit {0}
Stands bytes result = (d : Data) × IsTextOf bytes d × ValueStands d result

-- a text has one answer, want of memory aside: it stands for one table at most, and one that is refused has
-- one first fault
abbrev pub EachTextHasOneAnswer : Type 0
EachTextHasOneAnswer =
    (bytes : List ℕ) (first second : Result (List Cell) CellFault) → first ≢ Err NoMemory → second ≢ Err NoMemory → Stands bytes first → Stands bytes second → first ≡ second
