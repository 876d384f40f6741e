-- The elements so far are good, and the table has the memories among them.
use Rattle.std.proofs.Common.{◌≡◌, ◌<◌, ℕ, true}
use Rattle.design_core.specs.Faults.{AreOwned, place_good}
use Rattle.design_core.proofs.owners.owners_of.Given as goal

abbrev pub invariant-elements : goal.invariant-elements
invariant-elements l = record {
  owned : AreOwned l.parts l.place l.owners.items;
  good : (k : ℕ) → k < l.place → place_good l.parts k ≡ true;
}
