use Rattle.std.proofs.Common.{◌≡◌, ◌++◌, length, List, ℕ, ap, subst, ◌∙◌}
use Rattle.std.specs.Prelude.{option_to_list}
use Rattle.id_arena.specs.declared.keys.NetId.{NetId}
use Rattle.gain_place.specs.Homes.{source}
use Rattle.gain_place.specs.Lists.{HasUnder}
use Rattle.gain_place.proofs.Standing.{stand_fresh, stand_more}
use Rattle.gain_place.proofs.loads.driven_nets.Goals as goal

pub put_under-requires-clause-fresh : goal.put_under-requires-clause-fresh
put_under-requires-clause-fresh c =
    stand_fresh (λ n. option_to_list (source c.args.design.now n)) (length c.args.design.now.elements) c.nets.net c.nets.driven.items c.nets.invariant

pub nets-preserved : goal.nets-preserved
nets-preserved c =
    let here : c.as_slice.result.now ≡ option_to_list (source c.args.design.now c.nets.net)
    = c.as_slice.ensures.value ∙ c.in_ok-add_source.ensures.added
    ∙ ap (λ (xs : List ℕ). xs ++ option_to_list (source c.args.design.now c.of.result.place)) c.clear.ensures.items
    ∙ ap (λ (n : NetId). option_to_list (source c.args.design.now n.place)) c.of.ensures in
    stand_more (λ n. option_to_list (source c.args.design.now n)) (length c.args.design.now.elements) c.nets.net c.nets.driven.items c.nets.invariant
    c.put_under.new.table.items
    (subst (λ (heads : List ℕ). HasUnder heads c.nets.net c.nets.driven.items c.put_under.new.table.items) here c.in_ok-put_under.ensures)
