-- The last actions have been done.
use Rattle.std.proofs.Common.{◌≤◌, drop, length}
use Rattle.cycle_sim.specs.Passes.{ArePasses, CatchUp, rows_of}
use Rattle.cycle_sim.proofs.shown.show_taken.Given as goal

abbrev pub invariant-actions : goal.invariant-actions
invariant-actions l = record {
  low : l.left ≤ length l.actions;
  passes : ArePasses l.results l.passes;
  shown : CatchUp l.results l.wires l.held (drop l.left l.actions) (rows_of l.initial.passes) (rows_of l.passes);
}

abbrev pub decreases-actions : goal.decreases-actions
decreases-actions l = l.left
