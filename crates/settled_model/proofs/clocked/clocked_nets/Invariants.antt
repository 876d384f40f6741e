-- The nets so far that are bits of read ports with a clock.
use Rattle.settled_model.proofs.Clocking.{AreSome}
use Rattle.settled_model.proofs.clocked.clocked_nets.Given as goal

abbrev pub invariant-nets : goal.invariant-nets
invariant-nets l = AreSome l.design l.place l.clocked.items
