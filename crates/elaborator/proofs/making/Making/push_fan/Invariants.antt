use Rattle.std.proofs.Common.{◌≡◌, ◌∷◌, [], drop, map}
use Rattle.design_core.specs.declared.element.Element.TheVariants as element
use Rattle.flattening.specs.Pieces.{elements_in, joined}
use Rattle.elaborator.proofs.making.Making.push_fan.Given as goal

abbrev pub invariant-outputs : goal.invariant-outputs
invariant-outputs l =
    joined l.self (elements_in l.scope (map (element.Gate l.op (l.input ∷ [])) (drop l.output-index l.outputs)))
    ≡ joined l.initial.self (elements_in l.scope (map (element.Gate l.op (l.input ∷ [])) l.outputs))
