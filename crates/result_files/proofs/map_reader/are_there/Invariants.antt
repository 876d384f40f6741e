use Rattle.std.proofs.Common.{◌≡◌, ◌<◌, ℕ, Some, slice_get}
use Rattle.emu_machine.specs.declared.map.Spot.{Spot}
use Rattle.result_files.specs.Readers.{IsThere}
use Rattle.result_files.proofs.map_reader.are_there.Given as goal

-- the outputs so far show nets that are there
abbrev pub invariant-outputs : goal.invariant-outputs
invariant-outputs l =
    (k : ℕ) (spot : Spot) → k < l.place → slice_get l.outputs k ≡ Some spot → IsThere l.chips spot
