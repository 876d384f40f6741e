-- Inside the groups: the table in which the nets of each group are marked.
use Rattle.std.specs.Prelude.{◌≡◌, ◌<◌, ◌==◌, ◌&&◌, ◌||◌, ℕ, List, Some, length, map, slice_get, Contains}
use Rattle.id_arena.specs.declared.keys.NetId.{NetId}
use Rattle.design_core.specs.Design.{includes}
use Rattle.design_core.specs.Influence.{Group}
use Rattle.link_rows.specs.BitRows.{BitTable, bits_at, is_set}
use Rattle.domain_groups.specs.declared.groups.NamedGroup.{NamedGroup}
use Rattle.domain_groups.specs.Groups.{InputGroups, frames}

-- a group as contracts see it
abbrev pub seen : NamedGroup → Group
seen group = record { name = group.name; nets = group.nets }

-- all of them, beside the bits of all inputs
abbrev pub all_seen : List NamedGroup → List NetId → InputGroups
all_seen groups inputs = record { groups = map seen groups; inputs = inputs }

-- each of these nets has a bit in a row of this width
abbrev pub AreBelow : ℕ → List NetId → Type 0
AreBelow width nets = (n : NetId) → Contains nets n → n.place < width

-- a table in which the bits of these nets are set in one row, and else nothing is changed
pub record SetsNets (old new : BitTable) (row : ℕ) (nets : List NetId) : Type 0 where
  pub count : length new.rows ≡ length old.rows
  pub width : new.width ≡ old.width
  pub bits : (k n : ℕ) → is_set (bits_at new k) n ≡ (is_set (bits_at old k) n || ((k == row) && includes nets n))

-- a row for each frame, with the bits of its nets set
pub record HasMembers (v : InputGroups) (table : BitTable) : Type 0 where
  pub count : length table.rows ≡ length (frames v)
  pub bits : (k n : ℕ) (g : Group) → slice_get (frames v) k ≡ Some g → is_set (bits_at table k) n ≡ includes g.nets n
