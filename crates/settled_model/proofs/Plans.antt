-- The steps of the nodes of an order, one for each place.
use Rattle.std.proofs.Common.{◌≡◌, ◌<◌, ℕ, Bool, true, List, [], ◌∷◌, length, get_or, sym, subst, arith}
use Rattle.std.specs.Prelude.{Some, slice_get}
use Rattle.std.proofs.lemmas.Option.{slice_get-get_or}
use Rattle.id_arena.specs.declared.keys.NetId.{NetId}
use Rattle.design_core.specs.declared.element.Element.TheVariants as element
use Rattle.design_core.specs.declared.node.NodeId.{NodeId}
use Rattle.design_core.specs.declared.node.NodeId.TheVariants.{Net}
use Rattle.design_core.specs.declared.parts.Parts.{Parts}
use Rattle.design_core.specs.Design.{IsDesign, net_count}
use Rattle.design_core.specs.Dependency.{IsNode}
use Rattle.design_core.specs.Faults.{is_there}
use Rattle.clock_rank.specs.Orders.{IsInOrder}
use Rattle.history_law.proofs.Ranges.{within_each, element_within}
use Rattle.settled_model.specs.declared.steps.Step.{Step}
use Rattle.settled_model.specs.Steps.{follower, IsFollower, IsStep, IsStepThere, ArePlanned}
use Rattle.settled_model.proofs.Ranges.{there}

-- the step at a place is that of the node at this place
pub step_at : (p design : Parts) (order : List NodeId) (steps : List Step) (place : ℕ) (other : Step) (node : NodeId)
    → design ≡ p → ArePlanned p order steps → place < length order → slice_get order place ≡ Some node → IsStep design node (get_or steps place other)
step_at p design order steps place other node same planned low at =
    let within : place < length steps = omega (arith, planned.size) in
    subst (λ (q : Parts). IsStep q node (get_or steps place other)) (sym same)
    (planned.each place node (get_or steps place other) at (slice_get-get_or steps place other within))

pub step_there : (p design : Parts) (order : List NodeId) (steps : List Step) (place : ℕ) (other : Step)
    → design ≡ p → IsInOrder p order → ArePlanned p order steps → place < length order → IsStepThere design (get_or steps place other)
step_there p design order steps place other same h planned low =
    let node : NodeId = get_or order place (Net (record { place = 0 })) in
    let at : slice_get order place ≡ Some node = slice_get-get_or order place _ low in
    record {
      node = node;
      there = subst (λ (q : Parts). IsNode q node) (sym same) (h.nodes place node at);
      is = step_at p design order steps place other node same planned low at;
    }

-- the net that a gate follows is there
pub input_there : (p : Parts) → IsDesign p → (net input : NetId) (inverts : Bool) → IsFollower p net input inverts → is_there (net_count p) input ≡ true
input_there p d net input inverts f =
    there p input (within_each p (input ∷ []) (element_within p d f.elem.place (element.Gate (follower inverts) (input ∷ []) f.output) f.here)).0
