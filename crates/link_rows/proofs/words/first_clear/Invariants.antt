use Rattle.std.proofs.Common.{◌-◌}
use Rattle.link_rows.proofs.Scans.{Scanned}
use Rattle.link_rows.proofs.words.first_clear.Given as goal

abbrev pub invariant-words : goal.invariant-words
invariant-words l = Scanned l.words l.from l.at

abbrev pub decreases-words : goal.decreases-words
decreases-words l = l.width - l.at
