use Rattle.std.proofs.Common.{◌≡◌, ◌≤◌, ◌∙◌, Some, List, ap, arith, length}
use Rattle.design_core.specs.declared.parts.NetName.{NetName}
use Rattle.flattening.specs.Pieces.{joined}
use Rattle.elaborator.specs.Walk.{nets_alone}
use Rattle.elaborator.proofs.OwnNets.{names_all, net_more, nets_none}
use Rattle.elaborator.proofs.entering.push_own.Goals as goal

pub nets-preserved : goal.nets-preserved
nets-preserved c =
    net_more c.args.making.now c.nets.making c.push_bits.new.making c.args.scope c.args.nets.now.names c.args.nets.now.rows c.nets.place c.name.result.now c.net-range.result
    c.name.ensures c.net-range.ensures c.nets.invariant c.in_ok-push_bits.ensures
