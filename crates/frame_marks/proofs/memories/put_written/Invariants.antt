-- The last entries have been put.
use Rattle.std.proofs.Common.{◌≡◌, ◌≤◌, ℕ, [], drop, length, get_or}
use Rattle.frame_marks.specs.Takes.{HaveWritten}
use Rattle.frame_marks.proofs.memories.put_written.Given as goal

abbrev pub invariant-written : goal.invariant-written
invariant-written l = record {
  low : l.left ≤ length l.written;
  count : length l.memories ≡ length l.initial.memories;
  sizes : (c : ℕ) → length (get_or l.memories c []) ≡ length (get_or l.initial.memories c []);
  written : HaveWritten (drop l.left l.written) l.initial.memories l.memories;
}

abbrev pub decreases-written : goal.decreases-written
decreases-written l = l.left
