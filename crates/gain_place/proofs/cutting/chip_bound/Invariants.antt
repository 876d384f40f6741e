-- The first chips are below the bound.
use Rattle.std.proofs.Common.{◌<◌, ◌≤◌, ◌^◌, ℕ}
use Rattle.gain_place.specs.Homes.{chip_at}
use Rattle.gain_place.proofs.cutting.chip_bound.Given as goal

abbrev pub invariant-chips : goal.invariant-chips
invariant-chips l = record {
  below : (k : ℕ) → k < l.chip-index → chip_at l.chips k < l.bound;
  small : l.bound ≤ 2 ^ 32;
}
