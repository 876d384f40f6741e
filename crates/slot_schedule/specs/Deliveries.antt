-- To which chips a net is delivered, and in which order.
-- The rule is told in docs/RULES.md, "Deliveries".
use Rattle.std.specs.Prelude.{◌≡◌, ◌≢◌, ◌<◌, ◌⊎◌, ◌↔◌, ℕ, true, List, [], ◌∷◌, ◌++◌, Some, None, length, Contains}
use Rattle.id_arena.specs.BoardPlan.{BoardPlan}
use Rattle.id_arena.specs.declared.keys.NetId.{NetId}
use Rattle.board_model.specs.Trees.{HasDistance, IsParent}
use Rattle.design_core.specs.declared.node.NodeId.{NodeId}
use Rattle.design_core.specs.declared.node.NodeId.TheVariants.{Net}
use Rattle.design_core.specs.Dependency.{IsNode, dependencies}
use Rattle.design_core.specs.Design.{IsDesign}
use Rattle.clock_rank.specs.Orders.{IsInOrder}
use Rattle.slot_schedule.specs.Settings.{Setting, home, IsReader}

-- a net has to reach each chip that reads it, other than its home, and each chip on the tree's way to one
pub data IsToReach (s : Setting) (n : NetId) (start : ℕ) : ℕ → Type 0 where
  reader : (chip : ℕ) → IsReader s n chip → chip ≢ start → IsToReach s n start chip
  on_the_way : (chip next distance : ℕ) → IsToReach s n start next → IsParent s.board start next chip distance → chip ≢ start → IsToReach s n start chip

-- a chip that is nearer to the root comes first, and of two as near the lower one
abbrev pub IsBefore : BoardPlan → ℕ → ℕ → ℕ → Type 0
IsBefore board root a b =
    (j k : ℕ) → HasDistance board root a j → HasDistance board root b k → (j < k) ⊎ ((j ≡ k) × (a < b))

-- the tree has a way to a chip
pub record HasParent (board : BoardPlan) (root chip : ℕ) : Type 0 where
  pub parent : ℕ
  pub distance : ℕ
  pub is : IsParent board root chip parent distance

-- all chips that a net has to reach, in their order; the tree has a way to each
pub record IsRoute (s : Setting) (n : NetId) (start : ℕ) (route : List ℕ) : Type 0 where
  pub chips : (chip : ℕ) → Contains route chip ↔ IsToReach s n start chip
  pub ways : (chip : ℕ) → Contains route chip → HasParent s.board start chip
  pub rises : (front back : List ℕ) (a b : ℕ) → route ≡ front ++ a ∷ back → Contains back b → IsBefore s.board start a b

-- a ranked design whose elements are all placed, an influence of its nodes, which holds each node that depends on
-- one of its nodes, and the route of each net of the influence that has a home
pub record IsSetting (s : Setting) : Type 0 where
  pub design : IsDesign s.design
  pub order : IsInOrder s.design s.order
  pub placed : length s.placement ≡ length s.design.elements
  pub nodes : (a : NodeId) → s.inside a ≡ true → IsNode s.design a
  pub grows : (a b : NodeId) → Contains (dependencies s.design a) b → s.inside b ≡ true → s.inside a ≡ true
  pub routes : (n : NetId) (start : ℕ) → s.inside (Net n) ≡ true → home s n ≡ Some start → IsRoute s n start (s.routes n)
  pub no_routes : (n : NetId) → home s n ≡ None → s.routes n ≡ []
