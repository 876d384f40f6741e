use Rattle.std.proofs.Common.{◌≡◌, ◌++◌, drop}
use Rattle.elaborator.proofs.primitive.push_all.Given as goal

abbrev pub invariant-nets : goal.invariant-nets
invariant-nets l = l.nets ++ drop l.net-index l.more ≡ l.initial.nets ++ l.more
