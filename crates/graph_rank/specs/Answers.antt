-- What the ranking of a graph answers, and the laws of ranks and cycles.
-- The rule is told in docs/RULES.md, "Dependencies and rank".
use Rattle.std.specs.Prelude.{◌≡◌, ℕ, List, Result, Ok, Err, slice_index}
use Rattle.graph_rank.specs.declared.fault.GraphFault.{GraphFault}
use Rattle.graph_rank.specs.declared.fault.GraphFault.TheVariants as fault
use Rattle.graph_rank.specs.Rows.{InRange, Leads}
use Rattle.graph_rank.specs.Ranks.{HasRank, AllRanked, Ranking, IsRanking, IsOrder}
use Rattle.graph_rank.specs.Cycles.{Unranked, IsCycle}

-- the ranks and the order of a graph in which each node has a rank, else its one cycle
abbrev pub Answers : List (List ℕ) → Result Ranking GraphFault → Type 0
Answers rows (Ok ranking) = IsRanking rows ranking
Answers rows (Err (fault.Cycle nodes)) = IsCycle rows nodes
Answers rows (Err fault.NoMemory) = Unit {0}

-- a node has at most one rank
abbrev pub RanksAreUnique : Type 0
RanksAreUnique = (rows : List (List ℕ)) (n j k : ℕ) → HasRank rows n j → HasRank rows n k → j ≡ k

-- in a ranking all on which a node depends stands before the node
abbrev pub RankingsAreSorted : Type 0
RankingsAreSorted = (rows : List (List ℕ)) (r : Ranking) → IsRanking rows r → IsOrder rows r.order

-- where each node has a rank, no node depends on itself, in one step or in more
abbrev pub RankedHasNoCycle : Type 0
RankedHasNoCycle = (rows : List (List ℕ)) → AllRanked rows → (n : ℕ) → Leads rows n n → ⊥

-- the first node of a cycle depends on itself, in one step or in more
abbrev pub CyclesComeRound : Type 0
CyclesComeRound = (rows : List (List ℕ)) (cycle : List ℕ) → IsCycle rows cycle
    → Leads rows (slice_index cycle 0) (slice_index cycle 0)

-- where all named nodes are there and some node has no rank, some node depends on itself, in one step or
-- in more
abbrev pub UnrankedHasCycle : Type 0
UnrankedHasCycle = (rows : List (List ℕ)) (n : ℕ) → InRange rows → Unranked rows n → (m : ℕ) × Leads rows m m
