use Rattle.std.proofs.Common.{◌≡◌, length}
use Rattle.std.specs.List.{list_all}
use Rattle.domain_groups.specs.Lines.{has_equals, words}
use Rattle.event_replay.proofs.events.have_equals.Given as goal

abbrev pub invariant-words : goal.invariant-words
invariant-words l = list_all has_equals (words l.rest) ≡ list_all has_equals (words l.text)

abbrev pub decreases-words : goal.decreases-words
decreases-words l = length l.rest
