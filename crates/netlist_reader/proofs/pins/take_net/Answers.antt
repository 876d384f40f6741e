use Rattle.std.proofs.Common.{rules}
use Rattle.netlist_reader.proofs.Terminals.{net_stuck, net_none, net_past}
use Rattle.netlist_reader.proofs.pins.take_net.Goals as goal

pub returns-in_default : goal.returns-in_default
returns-in_default c =
    net_stuck c.args.nets c.args.rest.now c.name.result.now c.requires c.name.ensures
    (net_past c.args.nets c.in-Some.place c.name.result.now c.text.result.now c.ranges.nets.fits (search rules) c.text.ensures c.if-place-nets.false c.in-Some.ensures)

pub returns-in_default-2 : goal.returns-in_default-2
returns-in_default-2 c =
    net_stuck c.args.nets c.args.rest.now c.name.result.now c.requires c.name.ensures
    (net_none c.args.nets c.name.result.now c.text.result.now c.ranges.nets.fits c.text.ensures c.in_default.ensures)
