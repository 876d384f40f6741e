use Rattle.std.proofs.Common.{◌≡◌, ◌<◌, ℕ, false, length}
use Rattle.link_rows.specs.BitRows.{is_set}
use Rattle.gate_pass.proofs.waiting.Waiting.wake_all.Given as goal

abbrev pub invariant-gates : goal.invariant-gates
invariant-gates l = record {
  size : length l.self ≡ length l.initial.self;
  woken : (k : ℕ) → k < l.gate → is_set l.self k ≡ false;
}
