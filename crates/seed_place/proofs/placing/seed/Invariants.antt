use Rattle.seed_place.specs.Choice.{IsPlacing}
use Rattle.seed_place.proofs.placing.seed.Given as goal

abbrev pub invariant-elements : goal.invariant-elements
invariant-elements l = IsPlacing l.design l.board.rooms l.place l.placement l.left.items
