-- What is left to tell is what was left before.
use Rattle.std.proofs.Common.{◌≡◌, ℕ, false, drop, length, get_or}
use Rattle.std.specs.Prelude.{◌||◌}
use Rattle.cycle_sim.specs.Passes.{is_driven}
use Rattle.cycle_sim.proofs.passes.mark_outputs.Given as goal

abbrev pub invariant-gates : goal.invariant-gates
invariant-gates l = record {
  count : length l.gated ≡ length l.initial.gated;
  tells : (n : ℕ) → (get_or l.gated n false || is_driven (drop l.gate-index l.gates) n) ≡ (get_or l.initial.gated n false || is_driven l.gates n);
}
