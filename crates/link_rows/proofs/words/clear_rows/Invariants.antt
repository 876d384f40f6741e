use Rattle.std.proofs.Common.{◌≡◌, map, replicate}
use Rattle.link_rows.proofs.words.clear_rows.Given as goal

abbrev pub invariant-rows : goal.invariant-rows
invariant-rows l = map (λ words. words.items) l.made.items ≡ replicate l.counter (replicate l.count 0)
