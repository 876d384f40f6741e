use Rattle.std.proofs.Common.{◌≡◌, None, map, take}
use Rattle.std.specs.Prelude.{filter_map}
use Rattle.domain_groups.specs.Openings.{led_to, state_fault}
use Rattle.event_replay.specs.Checks.{first_of}
use Rattle.event_replay.proofs.opening.judged_ones.Given as goal

abbrev pub invariant-paths : goal.invariant-paths
invariant-paths l = record {
  sound : first_of (filter_map (state_fault (led_to l.states)) (take l.path-index (map (λ path. path.now) l.paths))) ≡ None;
  gives : map (λ id. id.place) l.ones ≡ filter_map (led_to l.states) (take l.path-index (map (λ path. path.now) l.paths));
}
