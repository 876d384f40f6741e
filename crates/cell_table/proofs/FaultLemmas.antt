-- What follows of a fault, and of there being none.
use Rattle.std.proofs.Common.{◌≡◌, ℕ, List, Bool, true, false, Option, Some, None, Result, Ok, Err, ap, sym, refl, length}
use Rattle.std.specs.Prelude.{if◌then◌else◌, not, is_some, option_and_then, option_map, codes}
use Rattle.id_arena.specs.Names.{place_among}
use Rattle.serde_json.specs.Data.{Data}
use Rattle.json_members.specs.Members.{array_member, data_of}
use Rattle.cell_table.specs.Faults.{written_fault, fault_beside}
use Rattle.cell_table.specs.Judge.{tables_are_sized, is_within_limits}
use Rattle.cell_table.specs.Kinds.{written_of}
use Rattle.cell_table.specs.Pins.{stands_twice, pins_of, shared_pins}
use Rattle.cell_table.specs.Table.{version_of, IsFirstFault, ListStands, ValueStands}
use Rattle.cell_table.specs.declared.cell.Cell.{Cell}
use Rattle.cell_table.specs.declared.fault.CellFault.{CellFault}
use Rattle.cell_table.specs.declared.fault.CellFault.TheVariants.{NotJson, Version, BadShape, PinTwice, TableSize, Limit, CellTwice, NoMemory}
use Rattle.cell_table.specs.declared.written.WrittenCell.{WrittenCell}

abbrev first_of : Bool → Bool → Bool → Bool → ℕ → Option CellFault
first_of twice sized within taken k =
    if twice then Some (PinTwice k) else (if not sized then Some (TableSize k) else (if not within then Some (Limit k) else (if taken then Some (CellTwice k) else None)))

no_fault : (twice sized within taken : Bool) (k : ℕ) → first_of twice sized within taken k ≡ None → (sized ≡ true) × (within ≡ true) × (taken ≡ false)
no_fault true sized within taken k none = absurd (cc)
no_fault false false within taken k none = absurd (cc)
no_fault false true false taken k none = absurd (cc)
no_fault false true true true k none = absurd (cc)
no_fault false true true false k none = (refl, refl, refl)

not_there : (o : Option ℕ) → is_some o ≡ false → o ≡ None
not_there None h = refl
not_there (Some n) h = absurd (cc)

-- what holds of a cell without fault
pub sound_cell : (version : ℕ) (names : List (List ℕ)) (written : WrittenCell) → written_fault version names written ≡ None → (tables_are_sized written.kind ≡ true) × (is_within_limits written.kind ≡ true) × (place_among names written.name ≡ None)
unfolding written_fault
sound_cell version names written none =
    let tests = no_fault (stands_twice (pins_of version written.kind) (shared_pins version written.kind)) (tables_are_sized written.kind) (is_within_limits written.kind) (is_some (place_among names written.name)) (length names) none in
    (tests.0, tests.1, not_there (place_among names written.name) tests.2)

-- the cell that a fault speaks of
abbrev pub concerns : CellFault → Option ℕ
concerns NotJson = None
concerns Version = None
concerns (BadShape cell) = cell
concerns (PinTwice cell) = Some cell
concerns (TableSize cell) = Some cell
concerns (Limit cell) = Some cell
concerns (CellTwice cell) = Some cell
concerns NoMemory = None

first_concerns : (twice sized within taken : Bool) (k : ℕ) (fault : CellFault) → first_of twice sized within taken k ≡ Some fault → concerns fault ≡ Some k
first_concerns true sized within taken k fault is = sym (ap (option_and_then concerns) is)
first_concerns false false within taken k fault is = sym (ap (option_and_then concerns) is)
first_concerns false true false taken k fault is = sym (ap (option_and_then concerns) is)
first_concerns false true true true k fault is = sym (ap (option_and_then concerns) is)
first_concerns false true true false k fault is = absurd (cc)

beside_concerns : (version : ℕ) (names : List (List ℕ)) (o : Option WrittenCell) (fault : CellFault) → fault_beside version names o ≡ Some fault → concerns fault ≡ Some (length names)
unfolding written_fault
beside_concerns version names None fault is = sym (ap (option_and_then concerns) is)
beside_concerns version names (Some written) fault is =
    first_concerns (stands_twice (pins_of version written.kind) (shared_pins version written.kind)) (tables_are_sized written.kind) (is_within_limits written.kind) (is_some (place_among names written.name)) (length names) fault is

-- the first fault of a list is that of a cell
some_cell : (version : ℕ) (ds : List Data) (fault : CellFault) → IsFirstFault version ds fault → concerns fault ≡ None → ⊥
some_cell version ds fault first none = let some = beside_concerns version _ (written_of version first.faulty) fault first.is in cc

-- what a list of cells stands for, its table does
pub value_stands : (d : Data) (version : ℕ) (ds : List Data) (result : Result (List Cell) CellFault) → version_of d ≡ Some version → option_map data_of (array_member (codes "cells") d) ≡ Some ds → ListStands version ds result → ValueStands d result
value_stands d version ds (Ok cells) told items stands = (version, ds, record { version_is = told; items = items }, stands)
value_stands d version ds (Err NotJson) told items stands = some_cell version ds NotJson stands refl
value_stands d version ds (Err Version) told items stands = absurd (some_cell version ds Version stands refl)
value_stands d version ds (Err (BadShape None)) told items stands = absurd (some_cell version ds (BadShape None) stands refl)
value_stands d version ds (Err (BadShape (Some k))) told items stands = (version, ds, record { version_is = told; items = items }, stands)
value_stands d version ds (Err (PinTwice k)) told items stands = (version, ds, record { version_is = told; items = items }, stands)
value_stands d version ds (Err (TableSize k)) told items stands = (version, ds, record { version_is = told; items = items }, stands)
value_stands d version ds (Err (Limit k)) told items stands = (version, ds, record { version_is = told; items = items }, stands)
value_stands d version ds (Err (CellTwice k)) told items stands = (version, ds, record { version_is = told; items = items }, stands)
value_stands d version ds (Err NoMemory) told items stands = tt
