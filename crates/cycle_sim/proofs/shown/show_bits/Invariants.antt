-- What is left to show is what was left before.
use Rattle.cycle_sim.specs.Passes.{ArePasses, rows_of}
use Rattle.cycle_sim.proofs.CatchingUp.{BitsLeft}
use Rattle.cycle_sim.proofs.shown.show_bits.Given as goal

abbrev pub invariant-bits : goal.invariant-bits
invariant-bits l = record {
  passes : ArePasses l.results l.passes;
  left : BitsLeft l.chip.place l.bits l.bit-index l.held (rows_of l.initial.passes) (rows_of l.passes);
}
