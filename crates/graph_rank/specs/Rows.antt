-- A graph as rows: the row of a node has the nodes on which it depends, by their places.
-- The rule is told in docs/RULES.md, "Dependencies and rank".
use Rattle.std.specs.Prelude.{ℕ, ◌<◌, List, [], length, Contains, slice_index_or}

-- the nodes on which a node depends
abbrev pub row : List (List ℕ) → ℕ → List ℕ
row rows n = slice_index_or rows n []

-- each node that is named is there
abbrev pub InRange : List (List ℕ) → Type 0
InRange rows = (n d : ℕ) → n < length rows → Contains (row rows n) d → d < length rows

-- one node depends on the other, in one step or through further nodes
pub data Leads (rows : List (List ℕ)) : ℕ → ℕ → Type 0 where
  step : (a b : ℕ) → Contains (row rows a) b → Leads rows a b
  through : (a b c : ℕ) → Contains (row rows a) b → Leads rows b c → Leads rows a c
