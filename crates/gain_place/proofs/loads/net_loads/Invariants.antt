use Rattle.gain_place.specs.Tables.{AreNetLoads}
use Rattle.gain_place.proofs.loads.net_loads.Given as goal

abbrev pub invariant-elements : goal.invariant-elements
invariant-elements l = AreNetLoads l.design l.elem l.loads.items
