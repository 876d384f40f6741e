-- A trail from the scope that is reached goes on from the trail so far.
use Rattle.std.proofs.Common.{◌<◌, ◌++◌, ℕ, List, length, map}
use Rattle.design_core.specs.Names.{IsTrail}
use Rattle.design_core.specs.Trails.{AreScopes, name_at}
use Rattle.design_core.proofs.names.trail_of.Given as goal

abbrev pub invariant-outwards : goal.invariant-outwards
invariant-outwards l = record {
  there : l.place < length l.scopes;
  trail : (outer : List (List ℕ)) → IsTrail l.scopes l.place outer → IsTrail l.scopes l.from (map (name_at l.scopes) l.trail.items ++ outer);
  scopes : AreScopes l.scopes l.trail.items;
}

abbrev pub decreases-outwards : goal.decreases-outwards
decreases-outwards l = l.place
