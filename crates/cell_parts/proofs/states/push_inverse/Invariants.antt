use Rattle.std.proofs.Common.{◌≡◌, ◌++◌, ◌∷◌, [], drop, map}
use Rattle.design_core.specs.declared.element.Element.TheVariants as element
use Rattle.design_core.specs.declared.operation.Op.TheVariants.{Not}
use Rattle.cell_parts.proofs.states.push_inverse.Given as goal

-- what is still to be added
abbrev pub invariant-nets : goal.invariant-nets
invariant-nets l =
    l.out ++ map (element.Gate Not (l.source ∷ [])) (drop l.net-index l.net-items) ≡ l.initial.out ++ map (element.Gate Not (l.source ∷ [])) l.net-items
