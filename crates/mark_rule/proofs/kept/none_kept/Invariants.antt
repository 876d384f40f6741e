use Rattle.std.proofs.Common.{◌≡◌, false}
use Rattle.std.specs.Prelude.{replicate}
use Rattle.mark_rule.proofs.kept.none_kept.Given as goal

abbrev pub invariant-nets : goal.invariant-nets
invariant-nets l = l.kept ≡ replicate l.counter false
