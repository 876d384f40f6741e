-- Inside the influence: what one row of bits says while it is filled.
use Rattle.std.specs.Prelude.{◌≡◌, ◌≢◌, ◌↔◌, ◌<◌, ℕ, false, true, List, length, Contains}
use Rattle.id_arena.specs.declared.keys.NetId.{NetId}
use Rattle.design_core.specs.declared.node.NodeId.{NodeId}
use Rattle.design_core.specs.declared.node.NodeId.TheVariants.{Net}
use Rattle.design_core.specs.declared.parts.Parts.{Parts}
use Rattle.design_core.specs.Influence.{IsReached}
use Rattle.link_rows.specs.BitRows.{BitTable, bits_at, is_set}
use Rattle.clock_rank.specs.Numbers.{all_nodes}
use Rattle.domain_groups.specs.Influences.{is_marked}

-- the table has this row, and a bit for each node
pub record HasRow (p : Parts) (table : BitTable) (row : ℕ) : Type 0 where
  pub there : row < length table.rows
  pub width : table.width ≡ length (all_nodes p)

-- the table has as many rows as before, each as wide as before
pub record SameSize (old new : BitTable) : Type 0 where
  pub count : length new.rows ≡ length old.rows
  pub width : new.width ≡ old.width

-- no bit of the row is set
abbrev pub IsClear : BitTable → ℕ → Type 0
IsClear table row = (n : ℕ) → is_set (bits_at table row) n ≡ false

-- in one row that was clear just the nodes are marked that these nets reach, and the other rows are as before
pub record Reaches (p : Parts) (old new : BitTable) (row : ℕ) (seeds : List NetId) : Type 0 where
  pub size : SameSize old new
  pub here : (a : NodeId) → (is_marked p new row a ≡ true) ↔ IsReached p seeds a
  pub others : (k n : ℕ) → k ≢ row → is_set (bits_at new k) n ≡ is_set (bits_at old k) n
