use Rattle.gain_place.specs.Tables.{AreDriven}
use Rattle.gain_place.proofs.loads.driven_nets.Given as goal

abbrev pub invariant-nets : goal.invariant-nets
invariant-nets l = AreDriven l.design l.net l.driven.items
