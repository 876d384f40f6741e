-- The nodes of a design in order of rank and then of node.
-- The rule is told in docs/RULES.md, "Dependencies and rank".
use Rattle.std.specs.Prelude.{◌≡◌, ◌<◌, ◌+◌, ◌⊎◌, ℕ, List, Some, Contains, slice_get}
use Rattle.design_core.specs.declared.node.NodeId.{NodeId}
use Rattle.design_core.specs.declared.parts.Parts.{Parts}
use Rattle.design_core.specs.Dependency.{dependencies, IsNode, HasRank, IsRanked, Precedes}

-- a design with its nodes in order
pub record RankedDesign : Type 0 where
  pub design : Parts
  pub order : List NodeId

-- a node of lesser rank comes first, and of two nodes of one rank the lesser node
abbrev pub ComesBefore : Parts → NodeId → NodeId → Type 0
ComesBefore p a b = (j k : ℕ) → HasRank p a j → HasRank p b k → (j < k) ⊎ ((j ≡ k) × Precedes a b)

-- Each node has a rank and stands in the order, once, since each entry comes before the next.
pub record IsInOrder (p : Parts) (order : List NodeId) : Type 0 where
  pub ranked : IsRanked p
  pub nodes : (k : ℕ) (a : NodeId) → slice_get order k ≡ Some a → IsNode p a
  pub all : (a : NodeId) → IsNode p a → Contains order a
  pub rises : (k : ℕ) (a b : NodeId) → slice_get order k ≡ Some a → slice_get order (k + 1) ≡ Some b → ComesBefore p a b

-- all on which a node depends stands earlier in the order than the node
abbrev pub IsSorted : Parts → List NodeId → Type 0
IsSorted p order = (i j : ℕ) (a b : NodeId)
    → slice_get order i ≡ Some a → slice_get order j ≡ Some b → Contains (dependencies p a) b → j < i
