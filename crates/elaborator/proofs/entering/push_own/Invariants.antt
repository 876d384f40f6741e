use Rattle.std.proofs.Common.{◌≡◌, take}
use Rattle.flattening.specs.Pieces.{joined}
use Rattle.elaborator.specs.Walk.{names_in, nets_alone}
use Rattle.elaborator.proofs.entering.push_own.Given as goal

abbrev pub invariant-nets : goal.invariant-nets
invariant-nets l = l.making ≡ joined l.initial.making (nets_alone (names_in l.scope (take l.place l.nets.names) (take l.place l.nets.rows)))
