-- Laws of ranks and orders of a design.
use Rattle.std.proofs.Common.{◌≡◌, ◌<◌, ◌≤◌, ◌+◌, ◌-◌, ℕ, zero, suc, List, [], ◌∷◌, ◌++◌, Some, length, get_or, sym, ◌∙◌, subst, arith, ◌⊎◌, inl, inr, length-append}
use Rattle.std.specs.Prelude.{slice_get}
use Rattle.std.specs.List.{Contains}
use Rattle.std.proofs.lemmas.Bool.{cases_lt}
use Rattle.std.proofs.lemmas.Option.{slice_get_within, slice_get-get_or}
use Rattle.design_core.specs.declared.node.NodeId.{NodeId}
use Rattle.design_core.specs.declared.parts.Parts.{Parts}
use Rattle.design_core.specs.Dependency.{dependencies, HasRank, Precedes}
use Rattle.design_core.specs.Dependency.HasRank.{ranked}
use Rattle.history_law.proofs.Ranges.{below_above}
use Rattle.clock_rank.specs.Orders.{IsInOrder}
use Rattle.clock_rank.specs.Numbers.{net_node}
use Rattle.clock_rank.specs.Answers.{RanksAreUnique, OrdersAreSorted, CyclesAreUnranked}
use Rattle.clock_rank.proofs.Relating.{above_same}

pub one_rank : RanksAreUnique
one_rank p a j k (ranked a1 j1 f deps1 is1) (ranked a2 k2 g deps2 is2) =
    is1 ∙ above_same f g (dependencies p a) (λ b h. one_rank p b (f b) (g b) (deps1 b h) (deps2 b h)) ∙ sym is2

-- a dependency has a lesser rank
pub lower : (p : Parts) (a b : NodeId) (k : ℕ) → HasRank p a k → Contains (dependencies p a) b → (j : ℕ) × HasRank p b j × (j < k)
lower p a b k (ranked a1 k1 rank deps is) h =
    let more = below_above rank (dependencies p a1) b h in (rank b, deps b h, omega arith)

-- ranks do not fall along the order
climbs : (p : Parts) (order : List NodeId) → IsInOrder p order → (n i : ℕ) (a b : NodeId) → slice_get order i ≡ Some a → slice_get order (i + n) ≡ Some b
    → (j k : ℕ) → HasRank p a j → HasRank p b k → j ≤ k
climbs p order s zero i a b at at-2 j k hj hk =
    let z : i + 0 ≡ i = omega arith in
    let at-3 = subst (λ (m : ℕ). slice_get order m ≡ Some b) z at-2 in
    let same : a ≡ b = cc in
    let e : j ≡ k = one_rank p b j k (subst (λ (c : NodeId). HasRank p c j) same hj) hk in
    omega arith
climbs p order s (suc n) i a b at at-2 j k hj hk =
    let e : i + suc n ≡ i + n + 1 = omega arith in
    let at-3 = subst (λ (m : ℕ). slice_get order m ≡ Some b) e at-2 in
    let within = slice_get_within order (i + n + 1) b at-3 in
    let mid : slice_get order (i + n) ≡ Some (get_or order (i + n) (net_node 0)) = slice_get-get_or order (i + n) (net_node 0) (omega arith) in
    let node = s.nodes (i + n) _ mid in
    let r = s.ranked _ node in
    let first = climbs p order s n i a _ at mid j r.0 hj r.1 in
    go r.0 first (s.rises (i + n) _ b mid at-3 r.0 k r.1 hk)
  where
    go : (m : ℕ) → j ≤ m → (m < k) ⊎ ((m ≡ k) × Precedes (get_or order (i + n) (net_node 0)) b) → j ≤ k
    go m low (inl less) = omega arith
    go m low (inr same) = let e = same.0 in omega arith

pub sorted_order : OrdersAreSorted
sorted_order p order s i j a b at at-2 h = go (cases_lt j i)
  where
    go : (j < i) ⊎ (i ≤ j) → j < i
    go (inl before) = before
    go (inr past) =
        let r = s.ranked a (s.nodes i a at) in
        let low = lower p a b r.0 r.1 h in
        let e : i + (j - i) ≡ j = omega arith in
        let at-3 = subst (λ (m : ℕ). slice_get order m ≡ Some b) (sym e) at-2 in
        let up = climbs p order s (j - i) i a b at at-3 r.0 low.0 r.1 low.1 in
        let less = low.2 in
        absurd (omega arith)

-- the walk begins at a node without rank
pub unranked_cycle : CyclesAreUnranked
unranked_cycle p cycle c all =
    let some : 0 < length (c.lead ++ cycle ++ c.again ∷ []) = omega (arith, length-append (c.lead ++ cycle) (c.again ∷ [])) in
    let at = slice_get-get_or (c.lead ++ cycle ++ c.again ∷ []) 0 (net_node 0) some in
    let first = c.walk.first _ at in
    let r = all _ first.here.node in
    first.here.no_rank r.0 r.1
