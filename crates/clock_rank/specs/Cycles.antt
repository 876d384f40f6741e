-- Designs without a cycle, and the one cycle that is told of a design in which some node has no rank.
-- The rule is told in docs/RULES.md, "Dependencies and rank".
use Rattle.std.specs.Prelude.{◌≡◌, ◌+◌, ◌⊎◌, ℕ, List, [], ◌∷◌, ◌++◌, Some, Contains, slice_get}
use Rattle.design_core.specs.declared.node.NodeId.{NodeId}
use Rattle.design_core.specs.declared.parts.Parts.{Parts}
use Rattle.design_core.specs.Dependency.{dependencies, IsNode, HasRank, Precedes}

-- a node rests on the nodes on which it depends, and on all on which these rest
pub data RestsOn (p : Parts) : NodeId → NodeId → Type 0 where
  directly : (a b : NodeId) → Contains (dependencies p a) b → RestsOn p a b
  through : (a b c : NodeId) → Contains (dependencies p a) b → RestsOn p b c → RestsOn p a c

-- no node of the design rests on itself
abbrev pub HasNoCycle : Parts → Type 0
HasNoCycle p = (a : NodeId) → IsNode p a → RestsOn p a a → ⊥

-- a node of the design that has no rank
pub record Unranked (p : Parts) (a : NodeId) : Type 0 where
  pub node : IsNode p a
  pub no_rank : (k : ℕ) → HasRank p a k → ⊥

-- the one node is the other, or a lesser one
abbrev pub IsUpTo : NodeId → NodeId → Type 0
IsUpTo a b = (a ≡ b) ⊎ Precedes a b

-- the least node without rank
pub record IsFirst (p : Parts) (a : NodeId) : Type 0 where
  pub here : Unranked p a
  pub least : (b : NodeId) → Unranked p b → IsUpTo a b

-- the least node without rank among those on which a node depends
pub record IsNext (p : Parts) (a b : NodeId) : Type 0 where
  pub needed : Contains (dependencies p a) b
  pub here : Unranked p b
  pub least : (d : NodeId) → Contains (dependencies p a) d → Unranked p d → IsUpTo b d

-- a walk from the least node without rank, on each time to the least dependency without rank
pub record IsWalk (p : Parts) (walk : List NodeId) : Type 0 where
  pub first : (a : NodeId) → slice_get walk 0 ≡ Some a → IsFirst p a
  pub steps : (k : ℕ) (a b : NodeId) → slice_get walk k ≡ Some a → slice_get walk (k + 1) ≡ Some b → IsNext p a b

-- no node stands in the list twice
abbrev pub AreDistinct : List NodeId → Type 0
AreDistinct nodes = (j k : ℕ) (a : NodeId) → slice_get nodes j ≡ Some a → slice_get nodes k ≡ Some a → j ≡ k

-- The walk goes on until a node comes again, and the cycle is the walk from that node's first place on.
pub record IsCycle (p : Parts) (cycle : List NodeId) : Type 0 where
  pub lead : List NodeId
  pub again : NodeId
  pub begins : slice_get cycle 0 ≡ Some again
  pub walk : IsWalk p (lead ++ cycle ++ again ∷ [])
  pub once : AreDistinct (lead ++ cycle)
