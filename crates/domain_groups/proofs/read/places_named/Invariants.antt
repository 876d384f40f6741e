-- The places so far, with those of the names to come, are those of all names.
use Rattle.std.proofs.Common.{◌≡◌, ◌++◌, drop, length}
use Rattle.domain_groups.specs.Judged.{ports_named}
use Rattle.domain_groups.specs.Judging.{ArePlaces}
use Rattle.domain_groups.proofs.read.places_named.Given as goal

abbrev pub invariant-names : goal.invariant-names
invariant-names l = record {
  named : l.places.items ++ ports_named l.ports (drop l.name-index l.names) ≡ ports_named l.ports l.names;
  there : ArePlaces (length l.ports) l.places.items;
}
