use Rattle.gain_place.specs.Tables.{AreNets}
use Rattle.gain_place.proofs.loads.element_nets.Given as goal

abbrev pub invariant-nets : goal.invariant-nets
invariant-nets l = AreNets l.design l.net l.nets.items
