use Rattle.graph_cycle.specs.Search.{AreShut}
use Rattle.graph_cycle.proofs.search.shut.Given as goal

abbrev pub invariant-each : goal.invariant-each
invariant-each l = AreShut l.fn.marks.items l.stack l.start l.k l.on l.marks.items
