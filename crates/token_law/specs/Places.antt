-- Places of a text, and the least of them with a property, by which the laws say where something ends.
-- The rule is told in docs/FORMATS.md, "Tokens".
use Rattle.std.specs.Prelude.{◌≡◌, ℕ, suc, ◌<◌, ◌≤◌, List, Some, slice_get}

-- these two bytes stand in a text at a place, one after the other
abbrev pub Pair : ℕ → ℕ → List ℕ → ℕ → Type 0
Pair a b text place = (slice_get text place ≡ Some a) × (slice_get text (suc place) ≡ Some b)

-- of all places from one on, this is the least with a property
pub record IsLeast (from : ℕ) (P : ℕ → Type 0) (place : ℕ) : Type 0 where
  pub beyond : from ≤ place
  pub has : P place
  pub least : (k : ℕ) → from ≤ k → k < place → P k → ⊥
