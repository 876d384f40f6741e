-- Names in JSON texts.
-- The rule is told in docs/FORMATS.md, "JSON texts".
use Rattle.std.specs.Prelude.{◌==◌, ℕ, List, length, Option, Some, None, if◌then◌else◌}
use Rattle.serde_json.specs.Data.{Data}
use Rattle.serde_json.specs.Find.{get, as_str}
use Rattle.json_members.specs.Members.{◌>>=◌, array_member, each, optional}

-- a name is a text of at least one byte
unfoldable pub name_of : Data → Option (List ℕ)
name_of tree = do
  text ← as_str tree
  if length text == 0 then None else Some text

-- the name that is the member of an object
unfoldable pub name_member : List ℕ → Data → Option (List ℕ)
name_member key tree = do
  member ← get key tree
  name_of member

-- a name that may be left out
unfoldable pub optional_name_member : List ℕ → Data → Option (Option (List ℕ))
optional_name_member key tree = optional name_of (get key tree)

-- the names in the list that is the member of an object
unfoldable pub names_member : List ℕ → Data → Option (List (List ℕ))
names_member key tree = do
  items ← array_member key tree
  each name_of items
