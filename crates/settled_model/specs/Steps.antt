-- How the nodes of an order get their turns: what is kept of each, so that a pass reads it at once.
-- The rule that a pass follows is told in docs/RULES.md, "After an event".
use Rattle.std.specs.Prelude.{◌≡◌, ℕ, Bool, true, false, Some, List, [], ◌∷◌, length, slice_get}
use Rattle.id_arena.specs.declared.keys.NetId.{NetId}
use Rattle.id_arena.specs.declared.keys.ElemId.{ElemId}
use Rattle.design_core.specs.declared.operation.Op.{Op}
use Rattle.design_core.specs.declared.operation.Op.TheVariants.{Buf, Not}
use Rattle.design_core.specs.declared.element.Element.{Element}
use Rattle.design_core.specs.declared.element.Element.TheVariants as element
use Rattle.design_core.specs.declared.element.Driver.TheVariants.{Elem}
use Rattle.design_core.specs.declared.node.NodeId.{NodeId}
use Rattle.design_core.specs.declared.node.NodeId.TheVariants.{Net}
use Rattle.design_core.specs.declared.parts.Parts.{Parts}
use Rattle.design_core.specs.Design.{driver}
use Rattle.design_core.specs.Dependency.{IsNode}
use Rattle.settled_model.specs.declared.steps.Step.{Step}
use Rattle.settled_model.specs.declared.steps.Step.TheVariants.{Follow, Node}

-- the gate word of one input that inverts it or does not
abbrev pub follower : Bool → Op
follower false = Buf
follower true = Not

-- an element is the gate that follows just this net
abbrev pub IsFollowing : Element → NetId → Bool → Type 0
IsFollowing e input inverts = (output : NetId) × (e ≡ element.Gate (follower inverts) (input ∷ []) output)

-- a net is driven by a gate that follows just this input
pub record IsFollower (p : Parts) (net input : NetId) (inverts : Bool) : Type 0 where
  pub elem : ElemId
  pub output : NetId
  pub drives : driver p net.place ≡ Elem elem
  pub here : slice_get p.elements elem.place ≡ Some (element.Gate (follower inverts) (input ∷ []) output)

-- a step is that of a node
abbrev pub IsStep : Parts → NodeId → Step → Type 0
IsStep p node (Follow net input inverts) = (node ≡ Net net) × IsFollower p net input inverts
IsStep p node (Node other) = other ≡ node

-- a step is that of some node that is there
pub record IsStepThere (p : Parts) (step : Step) : Type 0 where
  pub node : NodeId
  pub there : IsNode p node
  pub is : IsStep p node step

-- there is a step for each place of the order, that of the node at this place
pub record ArePlanned (p : Parts) (order : List NodeId) (steps : List Step) : Type 0 where
  pub size : length steps ≡ length order
  pub each : (k : ℕ) (node : NodeId) (step : Step) → slice_get order k ≡ Some node → slice_get steps k ≡ Some step → IsStep p node step
