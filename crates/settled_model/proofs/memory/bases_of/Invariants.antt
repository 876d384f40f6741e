-- The places so far are those of the memories so far, and the next one.
use Rattle.std.proofs.Common.{◌≡◌, ◌≤◌, ◌+◌, ℕ, length}
use Rattle.std.specs.Prelude.{slice_index}
use Rattle.settled_model.specs.Held.{first_word}
use Rattle.settled_model.proofs.memory.bases_of.Given as goal

abbrev pub invariant-memories : goal.invariant-memories
invariant-memories l = record {
  total : l.total ≡ first_word l.design l.place;
  size : length l.bases.items ≡ l.place + 1;
  each : (m : ℕ) → m ≤ l.place → slice_index l.bases.items m ≡ first_word l.design m;
}
