use Rattle.event_replay.proofs.Growing.{Growing}
use Rattle.event_replay.proofs.path_names.PathNames.new.Given as goal

abbrev pub invariant-elements : goal.invariant-elements
invariant-elements l = Growing l.design l.kind l.place l.names l.numbers.items
