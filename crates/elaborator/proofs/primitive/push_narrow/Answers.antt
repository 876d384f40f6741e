use Rattle.std.proofs.Common.{◌≡◌, ◌-◌, OnOk, List, length, map, subst, sym, take}
use Rattle.id_arena.specs.declared.keys.NetId.{NetId}
use Rattle.design_core.specs.declared.element.Element.TheVariants as element
use Rattle.module_bits.specs.Bits.{net_at}
use Rattle.flattening.specs.Pieces.{elements_in, joined}
use Rattle.elaborator.proofs.Gates.{last_at}
use Rattle.elaborator.proofs.primitive.push_narrow.Goals as goal

pub returns-in-len1-up : goal.returns-in-len1-up
returns-in-len1-up c =
    let nets = c.args.nets.now in
    subst (λ (inputs : List NetId). OnOk c.push_fan.result (c.push_fan.new.self ≡ joined c.args.making.now (elements_in c.args.scope (map (element.Gate c.args.op inputs) (take (length nets - 1) nets)))))
    (sym (last_at nets (net_at 0) c.in-len1-up.len_at_least)) c.push_fan.ensures
