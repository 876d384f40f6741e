use Rattle.std.proofs.Common.{◌≡◌, ◌<◌, ℕ, get_or}
use Rattle.result_files.proofs.drivers.are_ones.Given as goal

-- the counts so far are 1
abbrev pub invariant-nets : goal.invariant-nets
invariant-nets l = (n : ℕ) → n < l.net → get_or l.drivers n 0 ≡ 1
