use Rattle.std.proofs.Common.{◌∙◌, sym}
use Rattle.elaborator.proofs.Porting.{ports_fit, ports_full}
use Rattle.elaborator.proofs.feeding.do_ports.Goals as goal

pub returns-in-Some : goal.returns-in-Some
returns-in-Some c free =
    ports_full c.args.at c.args.side c.args.setting.now c.args.here.now c.args.inst.now c.args.child.now c.args.making.now c.push_ports.new.making c.args.ports.now c.args.tied.now
    c.requires.ports c.requires.tied c.in_ok-push_ports.ensures c.in-Some.fault (sym c.room_fault.ensures ∙ c.in-Some.is)

pub returns-in-None : goal.returns-in-None
returns-in-None c =
    ports_fit c.args.at c.args.side c.args.setting.now c.args.here.now c.args.inst.now c.args.child.now c.args.making.now c.push_ports.new.making c.args.ports.now c.args.tied.now
    c.requires.ports c.requires.tied c.in_ok-push_ports.ensures (sym c.room_fault.ensures ∙ c.in-None.is)
