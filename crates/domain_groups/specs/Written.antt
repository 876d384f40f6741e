-- The groups that a JSON value tells, by their names and the names of their ports:
-- {"groups":[{"name":"bus","ports":["bclk","addr"]},..]}
-- The rule is told in docs/FORMATS.md, "Groups".
use Rattle.std.specs.Prelude.{◌==◌, ◌&&◌, ◌||◌, ℕ, nat_le, Bool, List, length, codes, Option, Some, None, if◌then◌else◌}
use Rattle.std.specs.Char.{is_ascii_alphanumeric}
use Rattle.std.specs.List.{list_all}
use Rattle.serde_json.specs.Data.{Data}
use Rattle.serde_json.specs.Find.{as_str}
use Rattle.json_members.specs.Members.{◌>>=◌, each, array_member, text_member}
use Rattle.domain_groups.specs.declared.written.WrittenGroup.{WrittenGroup}

-- an ASCII letter, an ASCII digit or `_`, which is 95
abbrev pub is_name_byte : ℕ → Bool
is_name_byte b = is_ascii_alphanumeric b || b == 95

-- a name of a group is 1 to 64 of these
abbrev pub is_group_name : List ℕ → Bool
is_group_name name = nat_le 1 (length name) && nat_le (length name) 64 && list_all is_name_byte name

-- the name of a group
unfoldable pub name_told : Data → Option (List ℕ)
name_told d = do
  name ← text_member (codes "name") d
  if is_group_name name then Some name else None

-- the names of its ports, which are any texts
unfoldable pub ports_told : Data → Option (List (List ℕ))
ports_told d = do
  items ← array_member (codes "ports") d
  each as_str items

-- a group: `name` and `ports`; other members may stand beside them
unfoldable pub group_told : Data → Option WrittenGroup
group_told d = do
  name ← name_told d
  ports ← ports_told d
  Some (record { name = name; ports = ports })

-- the groups in the member `groups`
unfoldable pub groups_told : Data → Option (List WrittenGroup)
groups_told d = do
  items ← array_member (codes "groups") d
  each group_told items
