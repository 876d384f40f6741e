-- The first nets are counted.
use Rattle.std.proofs.Common.{◌≡◌, ◌≤◌, take}
use Rattle.std.specs.Prelude.{count_by}
use Rattle.gain_place.specs.Spans.{is_lone}
use Rattle.gain_place.proofs.gains.lone_nets.Given as goal

abbrev pub invariant-nets : goal.invariant-nets
invariant-nets l = record {
  count : l.count ≡ count_by (is_lone l.loads.loads l.chips l.elem.place l.chip.place) (take l.net-index l.nets);
  few : l.count ≤ l.net-index;
}
