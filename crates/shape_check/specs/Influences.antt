-- What an event of each frame's group can change, as the judge asks it.
-- The rule is told in docs/RULES.md, "Groups and influence".
use Rattle.std.specs.Prelude.{ℕ, Bool}
use Rattle.design_core.specs.declared.node.NodeId.{NodeId}
use Rattle.design_core.specs.declared.parts.Parts.{Parts}
use Rattle.link_rows.specs.BitRows.{BitTable}
use Rattle.domain_groups.specs.Influences.{is_marked}

-- a design, and for each frame a row of bits, one for each node
pub record Spread : Type 0 where
  pub design : Parts
  pub table : BitTable

-- whether a node is marked in the row of frame `k`
abbrev pub inside_of : Spread → ℕ → NodeId → Bool
inside_of s k a = is_marked s.design s.table k a

-- one frame of these
pub record FrameSpread : Type 0 where
  pub spread : Spread
  pub frame : ℕ
