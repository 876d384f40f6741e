use Rattle.std.proofs.Common.{map}
use Rattle.link_rows.proofs.Lengths.{Lengthened}
use Rattle.link_rows.proofs.words.lengthen.Given as goal

abbrev pub invariant-rows : goal.invariant-rows
invariant-rows l = Lengthened (map (λ words. words.items) l.initial.rows.items) (map (λ words. words.items) l.rows.items) l.count l.row
