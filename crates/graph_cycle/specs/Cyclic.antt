-- The least node of a graph that lies on a cycle.
-- The rule is told in docs/RULES.md, "Netlists of chips".
use Rattle.std.specs.Prelude.{◌<◌, ℕ, Option, Some, None, List}
use Rattle.graph_rank.specs.Rows.{Leads}

-- a node lies on a cycle where it depends on itself, in one step or in more
abbrev pub IsOnCycle : List (List ℕ) → ℕ → Type 0
IsOnCycle rows n = Leads rows n n

-- the least such node, or none where there is none
abbrev pub IsLeastOnCycle : List (List ℕ) → Option ℕ → Type 0
IsLeastOnCycle rows None = (n : ℕ) → IsOnCycle rows n → ⊥
IsLeastOnCycle rows (Some n) = IsOnCycle rows n × ((m : ℕ) → m < n → IsOnCycle rows m → ⊥)
