use Rattle.std.proofs.Common.{ℕ, ◌<◌}
use Rattle.std.specs.Prelude.{slice_index}
use Rattle.seed_place.proofs.placing.chip_for.Given as goal

abbrev pub invariant-chips : goal.invariant-chips
invariant-chips l = (d : ℕ) → d < l.chip → slice_index l.left d < l.weight
