-- The number so far is what the bits from this place on show.
use Rattle.std.proofs.Common.{◌≡◌, ◌≤◌, drop, length}
use Rattle.design_core.specs.Operation.{number}
use Rattle.cycle_sim.specs.Values.{values_in}
use Rattle.cycle_sim.proofs.words.number_of.Given as goal

abbrev pub invariant-bits : goal.invariant-bits
invariant-bits l = record {
  number : l.number ≡ number (values_in l.table (drop l.place l.bits));
  place : l.place ≤ length l.bits;
}

abbrev pub decreases-bits : goal.decreases-bits
decreases-bits l = l.place
