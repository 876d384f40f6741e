-- The bits so far stand in their places.
use Rattle.settled_model.specs.Held.{shown, word_in}
use Rattle.settled_model.proofs.Clocking.{AreTaken}
use Rattle.settled_model.proofs.clocked.take_bits.Given as goal

abbrev pub invariant-bits : goal.invariant-bits
invariant-bits l =
    AreTaken l.design l.clocked (word_in l.design l.words) (shown l.old) l.net-index l.initial.new l.new
