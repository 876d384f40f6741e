use Rattle.std.proofs.Common.{◌≡◌, ◌+◌, Some, true, length, slice_get}
use Rattle.std.specs.List.{list_all}
use Rattle.design_core.specs.Influence.{Group}
use Rattle.domain_groups.specs.Groups.{frames}
use Rattle.domain_groups.specs.Lines.{has_equals, words}
use Rattle.event_replay.specs.Events.{AreEarlier}
use Rattle.event_replay.proofs.Told.{Setting-up}
use Rattle.event_replay.proofs.events.read_settings.Given as goal

abbrev pub invariant-words : goal.invariant-words
invariant-words l = record {
  up : (g : Group) → slice_get (frames l.groups) l.group.place ≡ Some g → Setting-up l.ports g (words l.text) (words l.rest) l.last_lines l.number l.values;
  equals : list_all has_equals (words l.rest) ≡ true;
  earlier : AreEarlier l.ports l.last_lines (l.number + 1);
}

abbrev pub decreases-words : goal.decreases-words
decreases-words l = length l.rest
