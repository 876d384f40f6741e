-- What the ranking of a design answers, from what the ranking of its graph answers.
use Rattle.std.proofs.Common.{◌≡◌, ◌<◌, ◌≤◌, ◌+◌, ℕ, List, [], ◌∷◌, ◌++◌, map, length, get_or, ap, ◌∙◌, arith, length-append}
use Rattle.std.specs.List.{All}
use Rattle.std.proofs.lemmas.List.{get_or_read, get_or_default, get_or_append_left, get_or-append-add}
use Rattle.std.proofs.lemmas.Option.{slice_get_within}
use Rattle.id_arena.specs.declared.keys.MemId.{MemId}
use Rattle.design_core.specs.declared.node.NodeId.{NodeId}
use Rattle.design_core.specs.declared.node.NodeId.TheVariants.{Write}
use Rattle.design_core.specs.declared.parts.Parts.{Parts}
use Rattle.design_core.specs.Design.{IsDesign}
use Rattle.design_core.specs.Dependency.{IsNode}
use Rattle.graph_rank.specs.Rows.{InRange}
use Rattle.graph_rank.specs.Ranks.{Ranking, IsRanking}
use Rattle.graph_rank.specs.Cycles as cycles
use Rattle.graph_rank.specs.Answers.{RanksAreUnique}
use Rattle.clock_rank.specs.Orders.{IsInOrder}
use Rattle.clock_rank.specs.Cycles.{IsCycle}
use Rattle.clock_rank.specs.Numbers.{net_node, all_nodes, number_of, node_at, rows, AreStarts}
use Rattle.clock_rank.proofs.Counting.{start_fits}
use Rattle.clock_rank.proofs.Numbering.{number_at}
use Rattle.clock_rank.proofs.Steps.{start_is}
use Rattle.clock_rank.proofs.Relating.{rows_count, rows_closed, walk_in, cycle_design, order_design}

-- the number of a write node, as it is computed
pub number_is : (p : Parts) (starts : List ℕ) → AreStarts p (length p.memories) starts → (m : MemId) (k : ℕ) → IsNode p (Write m k)
    → (n start : ℕ) → n ≡ m.place → start ≡ get_or starts n start → (start + k ≤ 4294967295) × (start + k ≡ number_of p (Write m k))
number_is p starts s m k (memory, at, within) n start same read =
    let first = start_is p starts s m.place n memory at same in
    let there = slice_get_within p.memories m.place memory at in
    let size = s.size in
    let is : start ≡ get_or starts n 0 = get_or_read starts n start (omega arith) read 0 in
    let fits = start_fits p _ starts s m.place memory at in
    (omega arith, omega arith)

-- a node has a place among the ranks
pub rank_room : (p : Parts) → IsDesign p → (r : Ranking) → IsRanking (rows p) r → (a : NodeId) → IsNode p a → (n : ℕ) → n ≡ number_of p a → n < length r.ranks
rank_room p d r s a node n is =
    let num = (number_at p a node).0 in
    let size = rows_count p d in
    let ranks = s.ranks_count in
    omega arith

pub graph_closed : (p : Parts) → IsDesign p → (graph : List (List ℕ)) → graph ≡ rows p → InRange graph
graph_closed p d graph is = rw is (rows_closed p d)

pub order_is : RanksAreUnique → (p : Parts) → IsDesign p → (graph : List (List ℕ)) → graph ≡ rows p → (r : Ranking) → IsRanking graph r → IsInOrder p (map (node_at p) r.order)
order_is one p d graph is r s = order_design p d one r (rw is at s)

-- the nodes of a cycle are there
cycle_in : (p : Parts) (d : IsDesign p) (cycle : List ℕ) (c : cycles.IsCycle (rows p) cycle) → (k : ℕ) → k < length cycle → get_or cycle k 0 < length (rows p)
cycle_in p d cycle c k below =
    let some = length-append c.lead cycle in
    let all = length-append (c.lead ++ cycle) (get_or cycle 0 0 ∷ []) in
    let h = walk_in p d (c.lead ++ cycle ++ get_or cycle 0 0 ∷ []) c.walk (length c.lead + k) (omega arith) in
    let is : get_or (c.lead ++ cycle ++ get_or cycle 0 0 ∷ []) (length c.lead + k) 0 ≡ get_or cycle k 0 =
    get_or_append_left (c.lead ++ cycle) (get_or cycle 0 0 ∷ []) 0 (length c.lead + k) (omega arith) ∙ get_or-append-add c.lead cycle k 0 in
    omega arith

pub cycle_named : (p : Parts) → IsDesign p → (graph : List (List ℕ)) → graph ≡ rows p → (cycle : List ℕ) → cycles.IsCycle graph cycle
    → (nodes : List NodeId) → nodes ≡ all_nodes p → (numbers : List ℕ) → numbers ≡ cycle → All (λ n. n < length nodes) numbers
cycle_named p d graph is cycle c nodes all numbers same k e below =
    let size : length nodes ≡ length (all_nodes p) = ap length all in
    let count : length numbers ≡ length cycle = ap length same in
    let rows = rows_count p d in
    let here : k < length cycle = omega arith in
    let h = cycle_in p d cycle (rw is at c) k here in
    let at : get_or numbers k e ≡ get_or cycle k 0 = ap (λ xs. get_or xs k e) same ∙ get_or_default cycle k e 0 here in
    omega arith

pub cycle_is : (p : Parts) → IsDesign p → (graph : List (List ℕ)) → graph ≡ rows p → (cycle : List ℕ) → cycles.IsCycle graph cycle
    → (nodes : List NodeId) → nodes ≡ all_nodes p → (numbers : List ℕ) → numbers ≡ cycle
    → (named : List NodeId) → named ≡ map (λ n. get_or nodes n (net_node 0)) numbers → IsCycle p named
cycle_is p d graph is cycle c nodes all numbers same named e =
    let named-2 : named ≡ map (node_at p) cycle = e ∙ ap (λ xs. map (λ n. get_or nodes n (net_node 0)) xs) same ∙ ap (λ ns. map (λ n. get_or ns n (net_node 0)) cycle) all in
    rw named-2 (cycle_design p d cycle (rw is at c))
