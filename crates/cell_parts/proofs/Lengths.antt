-- How long the lists of elements are.
use Rattle.std.proofs.Common.{◌≡◌, ◌+◌, ℕ, Option, Some, None, List, [], ◌∷◌, ◌++◌, arith, refl, length, length-append}
use Rattle.std.proofs.lemmas.List.{length-map}
use Rattle.design_core.specs.declared.element.Element.{Element}
use Rattle.design_core.specs.declared.element.Element.TheVariants as element
use Rattle.design_core.specs.declared.operation.Op.TheVariants.{Not}
use Rattle.cell_table.specs.declared.cell.CombOut.{CombOut}
use Rattle.cell_table.specs.declared.cell.FeedPin.{FeedPin}
use Rattle.cell_table.specs.declared.cell.FeedPin.TheVariants as feed
use Rattle.cell_parts.specs.CellGates.{clock_elements, clock_inner, comb_elements, table_gate}
use Rattle.cell_parts.specs.CellStates.{feed_gates, feed_inner, inverse_gates}
use Rattle.cell_parts.specs.Wires.{Wires, nets_at, pin_at}

pub length-comb : (w : Wires) (inputs : List (List ℕ)) (outputs : List CombOut) → length (comb_elements w inputs outputs) ≡ length outputs
length-comb w inputs outputs = length-map outputs (λ (out : CombOut). table_gate w inputs out.table (pin_at w out.pin))

pub length-feed : (w : Wires) (inner : ℕ) (f : FeedPin) → length (feed_gates w inner f) ≡ feed_inner f
length-feed w inner (feed.Pin pin) = refl
length-feed w inner (feed.Table pins table) = refl

pub length-inverse : (w : Wires) (q qn : List ℕ) → length (inverse_gates w q (Some qn)) ≡ length (nets_at w qn)
length-inverse w q qn = length-map (nets_at w qn) (element.Gate Not (pin_at w q ∷ []))

-- a state element between the gate of its data and its inverse
pub length-state : (w : Wires) (inner : ℕ) (f : FeedPin) (e : Element) (q : List ℕ) (qn : Option (List ℕ))
    → length (feed_gates w inner f ++ e ∷ inverse_gates w q qn) ≡ feed_inner f + 1 + length (inverse_gates w q qn)
length-state w inner f e q qn = omega (arith, length-append (feed_gates w inner f) (e ∷ inverse_gates w q qn), length-feed w inner f)

pub length-clock : (w : Wires) (inner : ℕ) (clock enable : List ℕ) (test : Option (List ℕ)) (output : List ℕ) → length (clock_elements w inner clock enable test output) ≡ clock_inner test + 1
length-clock w inner clock enable None output = refl
length-clock w inner clock enable (Some test) output = refl

pub ruleset lengths = (length-comb, length-inverse, length-state, length-clock)
