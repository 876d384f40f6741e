-- The last actions have been done.
use Rattle.std.proofs.Common.{◌≤◌, drop, length}
use Rattle.cycle_sim.specs.Tables.{HaveSizes}
use Rattle.cycle_sim.specs.Passes.{rows_of}
use Rattle.cycle_sim.specs.Takes.{HasTaken}
use Rattle.cycle_sim.proofs.taken.take_all.Given as goal

abbrev pub invariant-actions : goal.invariant-actions
invariant-actions l = record {
  low : l.left ≤ length l.actions;
  sizes : HaveSizes l.results l.held;
  taken : HasTaken l.results l.wires (rows_of l.shown) l.words l.outside l.carried (drop l.left l.actions) l.initial.held l.held;
}

abbrev pub decreases-actions : goal.decreases-actions
decreases-actions l = l.left
