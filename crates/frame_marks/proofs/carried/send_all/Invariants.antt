-- The last actions have been done.
use Rattle.std.proofs.Common.{◌≡◌, ◌≤◌, drop, length}
use Rattle.frame_marks.specs.Takes.{SendsAll}
use Rattle.frame_marks.proofs.carried.send_all.Given as goal

abbrev pub invariant-actions : goal.invariant-actions
invariant-actions l = record {
  low : l.left ≤ length l.actions;
  size : length l.carried ≡ length l.plan.wires.now;
  sent : SendsAll l.plan.design.now l.plan.results.now l.plan.wires.now l.chips (drop l.left l.actions) l.initial.carried l.carried;
}

abbrev pub decreases-actions : goal.decreases-actions
decreases-actions l = l.left
