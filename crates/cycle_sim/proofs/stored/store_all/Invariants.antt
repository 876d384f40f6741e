-- The last actions have been done.
use Rattle.std.proofs.Common.{◌≤◌, drop, length}
use Rattle.cycle_sim.specs.Tables.{HaveWords}
use Rattle.cycle_sim.specs.Passes.{rows_of}
use Rattle.cycle_sim.specs.Takes.{HasStored}
use Rattle.cycle_sim.proofs.stored.store_all.Given as goal

abbrev pub invariant-actions : goal.invariant-actions
invariant-actions l = record {
  low : l.left ≤ length l.actions;
  sizes : HaveWords l.results l.words;
  stored : HasStored l.results (rows_of l.shown) (drop l.left l.actions) l.initial.words l.words;
}

abbrev pub decreases-actions : goal.decreases-actions
decreases-actions l = l.left
