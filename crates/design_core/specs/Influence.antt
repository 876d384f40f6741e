-- Groups of inputs, and the nodes that a group can reach.
-- The rule is told in docs/RULES.md, "Groups and influence".
use Rattle.std.specs.Prelude.{◌≡◌, ◌↔◌, ℕ, Bool, true, List, [], ◌∷◌, ◌++◌, Contains, codes}
use Rattle.id_arena.specs.declared.keys.NetId.{NetId}
use Rattle.design_core.specs.declared.node.NodeId.{NodeId}
use Rattle.design_core.specs.declared.node.NodeId.TheVariants.{Net}
use Rattle.design_core.specs.declared.parts.Parts.{Parts}
use Rattle.design_core.specs.Design.{port_bits}
use Rattle.design_core.specs.Dependency.{dependencies}

-- a named group of inputs that may change in one event: the nets of its ports
pub record Group : Type 0 where
  pub name : List ℕ
  pub nets : List NetId

-- a group of a design: each of its nets is a bit of an input port
abbrev pub IsGroup : Parts → Group → Type 0
IsGroup p group = (n : NetId) → Contains group.nets n → Contains (port_bits p.inputs) n

-- the groups that have a frame: each group, and last the one of all inputs, whose name is `*`
abbrev pub all_groups : Parts → List Group → List Group
all_groups p groups = groups ++ record { name = codes "*"; nets = port_bits p.inputs } ∷ []

-- the least set of nodes that holds these nets, and each node that depends on one of its nodes
pub data IsReached (p : Parts) (seeds : List NetId) : NodeId → Type 0 where
  seed : (n : NetId) → Contains seeds n → IsReached p seeds (Net n)
  over : (a b : NodeId) → Contains (dependencies p a) b → IsReached p seeds b → IsReached p seeds a

-- a test that tells the influence of a group: it holds of just the nodes that the group reaches
abbrev pub IsInfluence : Parts → Group → (NodeId → Bool) → Type 0
IsInfluence p group inside = (a : NodeId) → (inside a ≡ true) ↔ IsReached p group.nets a
