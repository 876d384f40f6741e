use Rattle.std.proofs.Common.{◌≡◌, ◌≤◌, List, ℕ, length, ap, arith, ◌∙◌}
use Rattle.std.specs.Prelude.{count_by}
use Rattle.id_arena.specs.declared.keys.ChipId.{ChipId}
use Rattle.design_core.specs.Design.{net_count}
use Rattle.gain_place.specs.declared.moves.Move.{Move}
use Rattle.gain_place.specs.Gain.{gain}
use Rattle.gain_place.specs.Homes.{chip_at}
use Rattle.gain_place.specs.Spans.{is_lone}
use Rattle.gain_place.specs.Tables.{nets_of}
use Rattle.gain_place.specs.Lists.{at}
use Rattle.gain_place.proofs.Standing.{element_nets_there, few_nets, net_loads_there}
use Rattle.gain_place.proofs.Trades.{cuts, gain_is, told}
use Rattle.gain_place.proofs.gains.gain_of.Goals as goal

pub lone_nets-won-requires-clause-nets : goal.lone_nets-won-requires-clause-nets
lone_nets-won-requires-clause-nets g c =
    element_nets_there c.args.design.now c.args.loads.now c.requires.loads c.args.elem.place c.requires.elem c.at_element-nets.result.now
    (c.at_element-nets.ensures ∙ ap (at c.args.loads.now.nets) c.place-2.ensures)

pub lone_nets-won-requires-clause-there : goal.lone_nets-won-requires-clause-there
lone_nets-won-requires-clause-there g c =
    net_loads_there c.args.design.now c.args.loads.now c.requires.loads (length c.as_slice-chips.result.now) (ap length c.as_slice-chips.ensures ∙ c.requires.one_each)

pub lone_nets-won-requires-clause-few : goal.lone_nets-won-requires-clause-few
lone_nets-won-requires-clause-few g c =
    let few = few_nets c.args.design.now c.args.loads.now c.requires.loads c.args.elem.place c.requires.elem c.at_element-nets.result.now
    (c.at_element-nets.ensures ∙ ap (at c.args.loads.now.nets) c.place-2.ensures) in
    let most : net_count c.args.design.now ≤ 400000 = c.stands.ensures.within.nets in
    omega (arith, few)

pub lone_nets-lost-requires-clause-nets : goal.lone_nets-lost-requires-clause-nets
lone_nets-lost-requires-clause-nets g c =
    element_nets_there c.args.design.now c.args.loads.now c.requires.loads c.args.elem.place c.requires.elem c.at_element-nets.result.now
    (c.at_element-nets.ensures ∙ ap (at c.args.loads.now.nets) c.place-2.ensures)

pub lone_nets-lost-requires-clause-there : goal.lone_nets-lost-requires-clause-there
lone_nets-lost-requires-clause-there g c =
    net_loads_there c.args.design.now c.args.loads.now c.requires.loads (length c.as_slice-chips.result.now) (ap length c.as_slice-chips.ensures ∙ c.requires.one_each)

pub lone_nets-lost-requires-clause-few : goal.lone_nets-lost-requires-clause-few
lone_nets-lost-requires-clause-few g c =
    let few = few_nets c.args.design.now c.args.loads.now c.requires.loads c.args.elem.place c.requires.elem c.at_element-nets.result.now
    (c.at_element-nets.ensures ∙ ap (at c.args.loads.now.nets) c.place-2.ensures) in
    let most : net_count c.args.design.now ≤ 400000 = c.stands.ensures.within.nets in
    omega (arith, few)

pub returns-clause-gain : goal.returns-clause-gain
returns-clause-gain g c =
    let chips : List ChipId = c.args.placement.now in
    let m : Move = record { elem = c.args.elem; to = c.args.to } in
    let k : ℕ = c.args.elem.place in
    let nets : c.at_element-nets.result.now ≡ nets_of c.args.design.now k
    = c.at_element-nets.ensures ∙ ap (at c.args.loads.now.nets) c.place-2.ensures ∙ c.requires.loads.nets k c.requires.elem in
    let won : c.lone_nets-won.result ≡ count_by (is_lone c.args.loads.now.loads chips k (chip_at chips k)) (nets_of c.args.design.now k)
    = c.lone_nets-won.ensures.count
    ∙ ap (λ (i : ℕ). count_by (is_lone c.args.loads.now.loads c.as_slice-chips.result.now k (chip_at c.as_slice-chips.result.now i)) c.at_element-nets.result.now) c.place.ensures
    ∙ ap (λ (cs : List ChipId). count_by (is_lone c.args.loads.now.loads cs k (chip_at cs k)) c.at_element-nets.result.now) c.as_slice-chips.ensures
    ∙ ap (count_by (is_lone c.args.loads.now.loads chips k (chip_at chips k))) nets in
    let lost : c.lone_nets-lost.result ≡ count_by (is_lone c.args.loads.now.loads chips k c.args.to.place) (nets_of c.args.design.now k)
    = c.lone_nets-lost.ensures.count
    ∙ ap (λ (cs : List ChipId). count_by (is_lone c.args.loads.now.loads cs k c.args.to.place) c.at_element-nets.result.now) c.as_slice-chips.ensures
    ∙ ap (count_by (is_lone c.args.loads.now.loads chips k c.args.to.place)) nets in
    let balance = cuts c.driver_is_element.ensures c.args.design.now chips m c.args.loads.now.loads c.requires.one_each c.requires.elem
    (λ j low. let h = c.requires.chips j (let e = c.requires.one_each in omega (arith, low, e)) in omega (arith, h))
    (let h = c.requires.to in omega (arith, h)) c.requires.loads.loads in
    let is = gain_is c.args.design.now chips m c.lone_nets-won.result c.lone_nets-lost.result (omega (arith, balance, won, lost)) in
    told c.from.result c.from-2.result (gain c.args.design.now chips m) c.lone_nets-won.result c.lone_nets-lost.result c.from.ensures c.from-2.ensures
    c.lone_nets-won.type_inv c.lone_nets-lost.type_inv is
