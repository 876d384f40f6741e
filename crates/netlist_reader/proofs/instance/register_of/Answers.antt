use Rattle.netlist_reader.proofs.Ports.{register_whole, register_loaded}
use Rattle.netlist_reader.proofs.instance.register_of.Goals as goal

pub returns : goal.returns
returns c = record {
  pins = register_whole c.args.pins.now _ _ _ c.requires.some c.requires.few c.pin_at.ensures c.pin_at-2.ensures;
  loaded = register_loaded c.args.pins.now _ _ c.pin_at.ensures c.pin_at-2.ensures;
}
