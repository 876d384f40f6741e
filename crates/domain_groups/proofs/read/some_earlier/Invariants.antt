use Rattle.domain_groups.proofs.Placed.{Marking}
use Rattle.domain_groups.proofs.read.some_earlier.Given as goal

abbrev pub invariant-places : goal.invariant-places
invariant-places l = Marking l.initial.marks l.marks l.places l.place-index
