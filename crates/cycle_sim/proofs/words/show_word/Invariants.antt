-- The nets from this place on show their bits.
use Rattle.std.proofs.Common.{◌≡◌, ◌≤◌, length}
use Rattle.cycle_sim.proofs.Showing.{ShowRest}
use Rattle.cycle_sim.proofs.words.show_word.Given as goal

abbrev pub invariant-bits : goal.invariant-bits
invariant-bits l = record {
  low : l.left ≤ length l.bits;
  size : length l.row ≡ length l.initial.row;
  shown : ShowRest l.bits l.left l.word l.initial.row l.row;
}

abbrev pub decreases-bits : goal.decreases-bits
decreases-bits l = l.left
