use Rattle.std.proofs.Common.{get_or, ◌≡◌, ◌++◌, List, [], ℕ, map, append_assoc, sym, ap, ◌∙◌}
use Rattle.std.specs.Prelude.{Option, option_map, unwrap_or}
use Rattle.id_arena.specs.declared.keys.NetId.{NetId}
use Rattle.design_core.specs.declared.element.Element.{Element}
use Rattle.gain_place.specs.Homes.{pins, pins_at}
use Rattle.gain_place.specs.Lists.{at}
use Rattle.gain_place.proofs.Standing.{driven_is, driven_long}
use Rattle.std.proofs.lemmas.List.{get_or_default}
use Rattle.gain_place.proofs.loads.add_touched.Goals as goal

pub returns : goal.returns
returns c =
    let places : List NetId → List ℕ = map (λ (n : NetId). n.place) in
    let drives : c.as_slice.result.now ≡ at c.args.driven.now c.args.elem.place
    = c.as_slice.ensures ∙ c.index-driven-place.is ∙ ap (λ (k : ℕ). get_or c.args.driven.now k c.index-driven-place.result) c.place.ensures ∙ get_or_default c.args.driven.now c.args.elem.place c.index-driven-place.result [] (driven_long c.args.design.now c.args.driven.now c.args.elem.place c.requires.driven c.requires.elem) in
    let here : pins c.args.design.now c.elem.result.now ≡ pins_at c.args.design.now c.args.elem.place
    = ap (λ (o : Option Element). unwrap_or (option_map (pins c.args.design.now) o) []) (sym c.elem.ensures.here) in
    c.in_ok-extend_from_slice.ensures.items
    ∙ ap (λ (xs : List ℕ). xs ++ c.as_slice.result.now) c.in_ok-add_pins.ensures
    ∙ append_assoc c.args.heads.now.items (places (pins c.args.design.now c.elem.result.now)) c.as_slice.result.now
    ∙ ap (λ (ns : List NetId). c.args.heads.now.items ++ (places ns ++ c.as_slice.result.now)) here
    ∙ ap (λ (xs : List ℕ). c.args.heads.now.items ++ (places (pins_at c.args.design.now c.args.elem.place) ++ xs))
    (drives ∙ driven_is c.args.design.now c.args.driven.now c.requires.driven c.args.elem.place)
