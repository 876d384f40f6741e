use Rattle.std.proofs.Common.{◌≡◌, ◌<◌, ℕ, length, get_or}
use Rattle.use_check.specs.Uses.{start_of}
use Rattle.use_check.proofs.judged.number_parts.Given as goal

abbrev pub invariant-each : goal.invariant-each
invariant-each l =
    record {
      count : length l.starts ≡ l.chip-index;
      total : l.total ≡ start_of l.chips l.chip-index;
      each : (c : ℕ) → c < l.chip-index → get_or l.starts c 0 ≡ start_of l.chips c;
    }
