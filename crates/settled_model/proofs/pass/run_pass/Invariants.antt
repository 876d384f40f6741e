-- The nodes so far have had their turn.
use Rattle.settled_model.proofs.Progress.{IsPassed}
use Rattle.settled_model.proofs.pass.run_pass.Given as goal

abbrev pub invariant-nodes : goal.invariant-nodes
invariant-nodes l = IsPassed l.ranked.design l.ranked.order l.fn.turn l.old l.initial.new l.initial.words l.place l.new l.words
