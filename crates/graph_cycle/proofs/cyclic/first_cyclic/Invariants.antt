use Rattle.std.proofs.Common.{◌<◌, ℕ}
use Rattle.graph_cycle.specs.Cyclic.{IsOnCycle}
use Rattle.graph_cycle.proofs.cyclic.first_cyclic.Given as goal

abbrev pub invariant-marks : goal.invariant-marks
invariant-marks l = (m : ℕ) → m < l.node → IsOnCycle l.graph m → ⊥
