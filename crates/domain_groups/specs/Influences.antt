-- The influence of each group as a row of bits, one for each node.
-- The rule is told in docs/RULES.md, "Groups and influence".
use Rattle.std.specs.Prelude.{◌≡◌, ◌+◌, ◌&&◌, ℕ, Bool, false, nat_lt, Some, List, length, slice_get}
use Rattle.std.specs.Option.{option_map_or}
use Rattle.id_arena.specs.declared.keys.MemId.{MemId}
use Rattle.design_core.specs.declared.node.NodeId.{NodeId}
use Rattle.design_core.specs.declared.node.NodeId.TheVariants.{Net, Write}
use Rattle.design_core.specs.declared.parts.Parts.{Parts}
use Rattle.design_core.specs.Design.{net_count}
use Rattle.design_core.specs.Influence.{Group, all_groups, IsInfluence}
use Rattle.link_rows.specs.BitRows.{BitTable, bits_at, is_set}
use Rattle.clock_rank.specs.Numbers.{all_nodes, number_of}

-- whether a memory has a write port of this number
abbrev pub has_write : Parts → MemId → ℕ → Bool
has_write p m k = option_map_or (λ memory. nat_lt k (length memory.writes)) (slice_get p.memories m.place) false

-- whether a node is there: a net, or a write node
abbrev pub is_node : Parts → NodeId → Bool
is_node p (Net n) = nat_lt n.place (net_count p)
is_node p (Write m k) = has_write p m k

-- whether a node is there and its bit is set in a row: bit `n` is that of net `n`, and behind the nets stand
-- the write nodes, by memory and port
abbrev pub is_marked : Parts → BitTable → ℕ → NodeId → Bool
is_marked p table row a = is_node p a && is_set (bits_at table row) (number_of p a)

-- a row for each group and one for `*`, the last, with a bit for each node; in it just the nodes are marked
-- that the group reaches
pub record AreInfluences (p : Parts) (groups : List Group) (table : BitTable) : Type 0 where
  pub count : length table.rows ≡ length (all_groups p groups)
  pub width : table.width ≡ length (all_nodes p)
  pub each : (k : ℕ) (g : Group) → slice_get (all_groups p groups) k ≡ Some g → IsInfluence p g (is_marked p table k)
