-- What the ranking of a design answers, and the laws of orders and cycles.
-- The rule is told in docs/RULES.md, "Dependencies and rank".
use Rattle.std.specs.Prelude.{◌≡◌, ◌↔◌, ℕ, List, Some, Result, Ok, Err, slice_get}
use Rattle.clock_rank.specs.declared.fault.RankFault.{RankFault}
use Rattle.clock_rank.specs.declared.fault.RankFault.TheVariants as fault
use Rattle.design_core.specs.declared.node.NodeId.{NodeId}
use Rattle.design_core.specs.declared.parts.Parts.{Parts}
use Rattle.design_core.specs.Design.{IsDesign}
use Rattle.design_core.specs.Dependency.{HasRank, IsRanked}
use Rattle.clock_rank.specs.Orders.{RankedDesign, IsInOrder, IsSorted}
use Rattle.clock_rank.specs.Cycles.{RestsOn, HasNoCycle, IsCycle}

-- the nodes in order where each of them has a rank, else the one cycle
abbrev pub Answers : Parts → Result RankedDesign RankFault → Type 0
Answers p (Ok r) = (r.design ≡ p) × IsInOrder p r.order
Answers p (Err (fault.Cycle nodes)) = IsCycle p nodes
Answers p (Err fault.NoMemory) = Unit {0}

-- a node has at most one rank
abbrev pub RanksAreUnique : Type 0
RanksAreUnique = (p : Parts) (a : NodeId) (j k : ℕ) → HasRank p a j → HasRank p a k → j ≡ k

-- in an order all on which a node depends stands before the node
abbrev pub OrdersAreSorted : Type 0
OrdersAreSorted = (p : Parts) (order : List NodeId) → IsInOrder p order → IsSorted p order

-- a design is ranked exactly where none of its nodes rests on itself
abbrev pub RankedWhereNoCycle : Type 0
RankedWhereNoCycle = (p : Parts) → IsDesign p → IsRanked p ↔ HasNoCycle p

-- a design of which a cycle is told has a node without rank
abbrev pub CyclesAreUnranked : Type 0
CyclesAreUnranked = (p : Parts) (cycle : List NodeId) → IsCycle p cycle → IsRanked p → ⊥

-- the first node of a cycle that is told rests on itself
abbrev pub CyclesComeRound : Type 0
CyclesComeRound =
    (p : Parts) (cycle : List NodeId) (a : NodeId)
    → IsCycle p cycle
    → slice_get cycle 0 ≡ Some a
    → RestsOn p a a
