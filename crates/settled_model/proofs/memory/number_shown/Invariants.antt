-- The number so far is what the bits from this place on show.
use Rattle.std.proofs.Common.{◌≡◌, ◌≤◌, drop, length}
use Rattle.design_core.specs.Valuation.{shown_number}
use Rattle.settled_model.specs.Held.{shown}
use Rattle.settled_model.proofs.memory.number_shown.Given as goal

abbrev pub invariant-bits : goal.invariant-bits
invariant-bits l = record {
  number : l.number ≡ shown_number (shown l.nets) (drop l.place l.bits);
  place : l.place ≤ length l.bits;
}

abbrev pub decreases-bits : goal.decreases-bits
decreases-bits l = l.place
