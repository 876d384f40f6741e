use Rattle.std.proofs.Common.{rules, ◌≡◌, ◌<◌, ◌≤◌, length, ap, arith, ◌∙◌}
use Rattle.std.specs.Prelude.{Some}
use Rattle.design_core.specs.Design.{net_count}
use Rattle.gain_place.specs.Homes.{source}
use Rattle.gain_place.specs.Spans.{spans}
use Rattle.gain_place.specs.Tables.{loads_of}
use Rattle.gain_place.proofs.Standing.{heads_in, loads_there}
use Rattle.gain_place.proofs.Spanning.{few_loads, spans_home}
use Rattle.gain_place.proofs.cutting.net_crossings.Goals as goal

pub overflow_add-net : goal.overflow_add-net
overflow_add-net c =
    let few : net_count c.args.design.now ≤ 400000 = c.stands.ensures.within.nets in
    let low = c.requires.net in
    omega arith

pub spanned-requires-clause-elems : goal.spanned-requires-clause-elems
spanned-requires-clause-elems c =
    heads_in c.at_net.result.now (loads_of c.args.design.now c.args.net) (length c.args.design.now.elements) (length c.args.chips.now)
    (c.at_net.ensures ∙ c.requires.loads.loads c.args.net c.requires.net)
    (loads_there c.args.design.now c.args.net) c.requires.one_each

pub spanned-requires-clause-many : goal.spanned-requires-clause-many
spanned-requires-clause-many c =
    let same = ap length (c.at_net.ensures ∙ c.requires.loads.loads c.args.net c.requires.net) in
    let few = few_loads c.args.design.now c.args.chips.now c.args.net in
    let most : length c.args.design.now.elements ≤ 200000 = c.stands.ensures.within.elements in
    omega (arith, same, few)

pub overflow_sub-result : goal.overflow_sub-result
overflow_sub-result c =
    let some : source c.args.design.now c.args.net ≡ Some c.in-Some.field-0.place = search rules in
    let there : c.in-Some.field-0.place < length c.args.design.now.elements = search rules in
    let within = c.requires.within c.in-Some.field-0.place (let e = c.requires.one_each in omega arith) in
    let small = c.requires.small in
    let e = c.spanned.ensures.spans ∙ ap (spans c.args.chips.now) (c.at_net.ensures ∙ c.requires.loads.loads c.args.net c.requires.net)
    ∙ spans_home c.args.design.now c.args.chips.now c.args.net c.in-Some.field-0.place some there (omega arith) in
    omega (arith, e)

pub returns-in-Some-clause-crossings : goal.returns-in-Some-clause-crossings
returns-in-Some-clause-crossings c =
    let some : source c.args.design.now c.args.net ≡ Some c.in-Some.field-0.place = search rules in
    let there : c.in-Some.field-0.place < length c.args.design.now.elements = search rules in
    let within = c.requires.within c.in-Some.field-0.place (let e = c.requires.one_each in omega arith) in
    let small = c.requires.small in
    let e = c.spanned.ensures.spans ∙ ap (spans c.args.chips.now) (c.at_net.ensures ∙ c.requires.loads.loads c.args.net c.requires.net)
    ∙ spans_home c.args.design.now c.args.chips.now c.args.net c.in-Some.field-0.place some there (omega arith) in
    omega (arith, e)

pub returns-in-Some-clause-few : goal.returns-in-Some-clause-few
returns-in-Some-clause-few c =
    let same = ap length (c.at_net.ensures ∙ c.requires.loads.loads c.args.net c.requires.net) in
    let few = few_loads c.args.design.now c.args.chips.now c.args.net in
    let most : length c.args.design.now.elements ≤ 200000 = c.stands.ensures.within.elements in
    let f = c.spanned.ensures.few in
    omega (arith, same, few, f)
