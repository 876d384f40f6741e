-- The readers of the first nets are counted.
use Rattle.std.proofs.Common.{◌≡◌, ◌<◌, ◌≤◌, ◌*◌, ◌^◌, ℕ, length}
use Rattle.gain_place.specs.Homes.{chip_at}
use Rattle.gain_place.specs.Spans.{cut_to, stamp_at}
use Rattle.gain_place.proofs.cutting.cut.Given as goal

abbrev pub invariant-nets : goal.invariant-nets
invariant-nets l = record {
  sum : l.total ≡ cut_to l.design l.placement l.net;
  small : l.total ≤ l.net * 200000;
  fresh : (c : ℕ) → stamp_at l.seen.items c ≤ l.net;
  within : (k : ℕ) → k < length l.placement → chip_at l.placement k < length l.seen.items;
  few : length l.seen.items ≤ 2 ^ 32;
}
