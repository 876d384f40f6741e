-- The last actions have been done.
use Rattle.std.proofs.Common.{◌≡◌, ◌≤◌, drop, length}
use Rattle.emu_machine.specs.Results.{Results}
use Rattle.cycle_sim.specs.Passes.{rows_of}
use Rattle.cycle_sim.specs.Takes.{HasSent}
use Rattle.cycle_sim.proofs.sent.send_all.Given as goal

abbrev pub invariant-actions : goal.invariant-actions
invariant-actions l = record {
  low : l.left ≤ length l.actions;
  size : length l.carried ≡ length l.wires;
  sent : (r : Results) → HasSent r l.wires (rows_of l.shown) (drop l.left l.actions) l.initial.carried l.carried;
}

abbrev pub decreases-actions : goal.decreases-actions
decreases-actions l = l.left
