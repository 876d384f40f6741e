use Rattle.graph_rank.specs.Places.{ArePlaces}
use Rattle.graph_rank.proofs.order.places_of.Given as goal

abbrev pub invariant-marks : goal.invariant-marks
invariant-marks l = ArePlaces l.marks l.node l.places.items
