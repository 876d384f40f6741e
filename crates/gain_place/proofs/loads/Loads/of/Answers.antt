use Rattle.gain_place.proofs.Standing.{loads_are}
use Rattle.gain_place.proofs.loads.Loads.of.Goals as goal

pub returns : goal.returns
returns c = loads_are c.args.design.now c.in_ok-driven.driven.items c.in_ok-loads.loads.items c.in_ok-nets.nets.items c.in_ok-loads.ensures c.in_ok-nets.ensures
