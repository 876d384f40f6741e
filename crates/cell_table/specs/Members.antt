-- What the members of a JSON object say. Each definition gives the value that a member stands for,
-- or None where the member is missing or of bad shape. Members that no definition asks for are
-- ignored.
-- The rule is told in docs/FORMATS.md, "The cell table".
use Rattle.std.specs.Prelude.{◌==◌, ℕ, List, codes, Bool, true, false, Option, Some, None, if◌then◌else◌, bytes_eq}
use Rattle.serde_json.specs.Data.{Data}
use Rattle.serde_json.specs.Find.{get}
use Rattle.json_members.specs.Members.{◌>>=◌, all_of, optional, text_member, word_member}
use Rattle.json_members.specs.Names.{name_member}
use Rattle.cell_table.specs.declared.cell.EdgePin.{EdgePin}
use Rattle.cell_table.specs.declared.cell.LevelPin.{LevelPin}

-- a character of a table
unfoldable pub bit_of : ℕ → Option Bool
bit_of character = if character == 48 then Some false else (if character == 49 then Some true else None)

-- the table that is the member of this key, a text of the characters 0 and 1: bit i is character i
unfoldable pub table_member : List ℕ → Data → Option (List Bool)
table_member key d = do
  text ← text_member key d
  all_of bit_of text

-- an edge: whether it is the rising one
unfoldable pub rise_of : List ℕ → Option Bool
rise_of edge =
    if bytes_eq edge (codes "rise") then Some true else (if bytes_eq edge (codes "fall") then Some false else None)

-- a level: whether it is the high one
unfoldable pub high_of : ℕ → Option Bool
high_of level = if level == 0 then Some false else (if level == 1 then Some true else None)

-- a pin with an edge: the members `pin` and `edge`
unfoldable pub edge_pin_of : Data → Option EdgePin
edge_pin_of d = do
  pin ← name_member (codes "pin") d
  edge ← text_member (codes "edge") d
  rise ← rise_of edge
  Some (record { pin = pin; rise = rise })

-- a pin with a level: the members `pin` and `active`
unfoldable pub level_pin_of : Data → Option LevelPin
level_pin_of d = do
  pin ← name_member (codes "pin") d
  active ← word_member (codes "active") d
  high ← high_of active
  Some (record { pin = pin; high = high })

-- the pin with an edge that is the member of this key
unfoldable pub edge_pin_member : List ℕ → Data → Option EdgePin
edge_pin_member key d = do
  member ← get key d
  edge_pin_of member

-- the pin with a level that is the member of this key
unfoldable pub level_pin_member : List ℕ → Data → Option LevelPin
level_pin_member key d = do
  member ← get key d
  level_pin_of member

-- a pin with an edge that may be left out
unfoldable pub optional_edge_pin_member : List ℕ → Data → Option (Option EdgePin)
optional_edge_pin_member key d = optional edge_pin_of (get key d)

-- a pin with a level that may be left out
unfoldable pub optional_level_pin_member : List ℕ → Data → Option (Option LevelPin)
optional_level_pin_member key d = optional level_pin_of (get key d)
