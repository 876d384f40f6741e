use Rattle.std.proofs.Common.{◌≡◌, ◌++◌, ◌∷◌, drop}
use Rattle.elaborator.proofs.entering.around_of.Given as goal

abbrev pub invariant-around : goal.invariant-around
invariant-around l = l.list ++ drop l.other-index l.around ≡ l.place ∷ l.around
