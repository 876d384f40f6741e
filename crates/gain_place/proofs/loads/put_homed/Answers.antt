use Rattle.std.proofs.Common.{rules, ◌≡◌, length, List, [], ℕ, sym, subst, ◌∙◌}
use Rattle.std.specs.Prelude.{Some, None}
use Rattle.gain_place.specs.Homes.{source}
use Rattle.gain_place.specs.Lists.{at, HasUnder}
use Rattle.gain_place.specs.Tables.{loads_of}
use Rattle.gain_place.proofs.Standing.{heads_in, homed_none, homed_some, loads_there, loads_is, loads_long}
use Rattle.std.proofs.lemmas.List.{get_or_default}
use Rattle.gain_place.proofs.loads.put_homed.Goals as goal

pub put_under-requires-clause-heads : goal.put_under-requires-clause-heads
put_under-requires-clause-heads c =
    let here : c.as_slice.result.now ≡ at c.args.loads.now c.args.net
    = c.as_slice.ensures ∙ c.index-loads-net.is ∙ get_or_default c.args.loads.now c.args.net c.index-loads-net.result [] (loads_long c.args.design.now c.args.loads.now c.args.net c.requires.loads c.requires.there) in
    heads_in c.as_slice.result.now (loads_of c.args.design.now c.args.net) (length c.args.design.now.elements) (length c.args.nets.now.items)
    (here ∙ loads_is c.args.design.now c.args.loads.now c.requires.loads c.args.net c.requires.there)
    (loads_there c.args.design.now c.args.net) c.requires.count

pub returns-in-None : goal.returns-in-None
returns-in-None c =
    let none : source c.args.design.now c.args.net ≡ None = search rules in
    homed_none c.args.design.now c.args.net c.args.nets.now.items none

pub returns-in_ok-put_under-in-Some : goal.returns-in_ok-put_under-in-Some
returns-in_ok-put_under-in-Some c =
    let here : c.as_slice.result.now ≡ at c.args.loads.now c.args.net
    = c.as_slice.ensures ∙ c.index-loads-net.is ∙ get_or_default c.args.loads.now c.args.net c.index-loads-net.result [] (loads_long c.args.design.now c.args.loads.now c.args.net c.requires.loads c.requires.there) in
    let some : source c.args.design.now c.args.net ≡ Some c.in-Some.field-0.place = search rules in
    subst (λ (heads : List ℕ). HasUnder heads c.args.net c.args.nets.now.items c.put_under.new.table.items)
    (here ∙ loads_is c.args.design.now c.args.loads.now c.requires.loads c.args.net c.requires.there
    ∙ sym (homed_some c.args.design.now c.args.net c.in-Some.field-0.place some))
    c.in_ok-put_under-in-Some.ensures
