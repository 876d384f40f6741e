use Rattle.elaborator.specs.Ties.{Shares}
use Rattle.elaborator.proofs.ties.share.Given as goal

abbrev pub invariant-places : goal.invariant-places
invariant-places l = Shares l.sockets l.place l.initial.ties l.ties
