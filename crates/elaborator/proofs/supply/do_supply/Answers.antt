use Rattle.std.proofs.Common.{◌≡◌, ◌∙◌, [], ◌∷◌, ap, map, sym}
use Rattle.id_arena.specs.declared.keys.NetId.{NetId}
use Rattle.design_core.specs.declared.element.Element.TheVariants as element
use Rattle.design_core.specs.declared.operation.Op.TheVariants.{Buf}
use Rattle.flattening.specs.Items.{constant_net, net_bits, supply_deed}
use Rattle.flattening.specs.Pieces.{performed}
use Rattle.flattening.specs.Places.{Inside, named_bits}
use Rattle.elaborator.specs.Room.{elements_alone}
use Rattle.elaborator.proofs.Items.{supply_all}
use Rattle.elaborator.proofs.Performing.{retold}
use Rattle.elaborator.proofs.supply.do_supply.Goals as goal

pub returns : goal.returns
returns c =
    let g = c.args.setting.now in
    let here = c.args.instance.now in
    let bits = c.as_slice.result.now in
    let are : bits ≡ net_bits g here c.args.name = c.as_slice.ensures ∙ c.in_ok-bits.ensures ∙ ap (named_bits here) c.name.ensures in
    retold (performed c.args.at (supply_deed g here c.args.one c.args.name)) (performed c.args.at (elements_alone c.instance.inside.scope (map (element.Gate Buf (c.constant_net.result ∷ [])) bits))) c.args.making.now c.add_fan.new.self c.add_fan.result
    (supply_all g here c.args.one c.args.name c.args.at c.args.making.now bits are
    ∙ ap (λ (i : Inside). performed c.args.at (elements_alone i.scope (map (element.Gate Buf (constant_net c.args.one ∷ [])) bits)) c.args.making.now) (sym c.instance.view_is)
    ∙ ap (λ (net : NetId). performed c.args.at (elements_alone c.instance.inside.scope (map (element.Gate Buf (net ∷ [])) bits)) c.args.making.now) (sym c.constant_net.ensures))
    c.add_fan.ensures
