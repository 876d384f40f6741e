-- In the order of ranks no node stands twice.
use Rattle.std.proofs.Common.{◌≡◌, ◌<◌, ◌+◌, ◌-◌, ◌⊎◌, inl, inr, ℕ, zero, suc, List, length, get_or, refl, sym, ap, ◌∙◌, arith}
use Rattle.std.specs.Prelude.{Some, slice_get}
use Rattle.std.proofs.lemmas.Bool.{cases_order}
use Rattle.std.proofs.lemmas.Option.{slice_get_within, slice_get-get_or}
use Rattle.design_core.specs.declared.node.NodeId.{NodeId}
use Rattle.design_core.specs.declared.node.NodeId.TheVariants.{Net, Write}
use Rattle.design_core.specs.declared.parts.Parts.{Parts}
use Rattle.design_core.specs.Dependency.{HasRank, Precedes}
use Rattle.clock_rank.specs.Orders.{ComesBefore, IsInOrder}
use Rattle.clock_rank.specs.Answers.{OrdersAreSorted}
use Rattle.settled_model.specs.Passing.{IsOrder}

precedes_on : (a b c : NodeId) → Precedes a b → Precedes b c → Precedes a c
precedes_on (Net n) (Net m) (Net l) h g = omega arith
precedes_on (Net n) (Net m) (Write l k) h g = tt
precedes_on (Net n) (Write m j) (Net l) h g = absurd g
precedes_on (Net n) (Write m j) (Write l k) h g = tt
precedes_on (Write n i) (Net m) c h g = absurd h
precedes_on (Write n i) (Write m j) (Net l) h g = absurd g
precedes_on (Write n i) (Write m j) (Write l k) (inl less) (inl more) = inl (omega arith)
precedes_on (Write n i) (Write m j) (Write l k) (inl less) (inr same) = inl (omega (arith, same.0))
precedes_on (Write n i) (Write m j) (Write l k) (inr same) (inl more) = inl (omega (arith, same.0))
precedes_on (Write n i) (Write m j) (Write l k) (inr same) (inr other) = inr (same.0 ∙ other.0, omega (arith, same.1, other.1))

not_itself : (a : NodeId) → Precedes a a → ⊥
not_itself (Net n) h = omega arith
not_itself (Write m k) (inl less) = omega arith
not_itself (Write m k) (inr same) = omega (arith, same.1)

module _ (p : Parts) where
  before_on : (a b c : NodeId) (r : ℕ) → HasRank p b r → ComesBefore p a b → ComesBefore p b c → ComesBefore p a c
  before_on a b c r rank h g = λ j k of_a of_c. go j k (h j r of_a rank) (g r k rank of_c)
    where
      go : (j k : ℕ) → (j < r) ⊎ ((j ≡ r) × Precedes a b) → (r < k) ⊎ ((r ≡ k) × Precedes b c) → (j < k) ⊎ ((j ≡ k) × Precedes a c)
      go j k (inl less) (inl more) = inl (omega arith)
      go j k (inl less) (inr same) = inl (omega (arith, same.0))
      go j k (inr same) (inl more) = inl (omega (arith, same.0))
      go j k (inr same) (inr other) = inr (same.0 ∙ other.0, precedes_on a b c same.1 other.1)

  never_before_itself : (a : NodeId) (r : ℕ) → HasRank p a r → ComesBefore p a a → ⊥
  never_before_itself a r rank h = go (h r r rank rank)
    where
      go : (r < r) ⊎ ((r ≡ r) × Precedes a a) → ⊥
      go (inl less) = omega arith
      go (inr same) = not_itself a same.1

  module _ (order : List NodeId) (h : IsInOrder p order) where
    rank_at : (k : ℕ) (a : NodeId) → slice_get order k ≡ Some a → (r : ℕ) × HasRank p a r
    rank_at k a at = h.ranked a (h.nodes k a at)

    rises_to : (n j : ℕ) (a b : NodeId) → slice_get order j ≡ Some a → slice_get order (j + n + 1) ≡ Some b → ComesBefore p a b
    rises_to zero j a b at there =
        let next : j + zero + 1 ≡ j + 1 = omega arith in
        h.rises j a b at (ap (slice_get order) (sym next) ∙ there)
    rises_to (suc n) j a b at there =
        let within : j + suc n + 1 < length order = slice_get_within order (j + suc n + 1) b there in
        let low : j + n + 1 < length order = omega arith in
        let c : NodeId = get_or order (j + n + 1) b in
        let here : slice_get order (j + n + 1) ≡ Some c = slice_get-get_or order (j + n + 1) b low in
        let next : (j + n + 1) + 1 ≡ j + suc n + 1 = omega arith in
        let rank = rank_at (j + n + 1) c here in
        before_on a c b rank.0 rank.1 (rises_to n j a c at here) (h.rises (j + n + 1) c b here (ap (slice_get order) next ∙ there))

    earlier_differs : (j k : ℕ) (a : NodeId) → slice_get order j ≡ Some a → slice_get order k ≡ Some a → j < k → ⊥
    earlier_differs j k a at there less = go (k - j - 1) refl
      where
        go : (n : ℕ) → n ≡ k - j - 1 → ⊥
        go n e =
            let place : j + n + 1 ≡ k = omega arith in
            let rank = rank_at j a at in
            never_before_itself a rank.0 rank.1 (rises_to n j a a at (ap (slice_get order) place ∙ there))

    stands_once : (j k : ℕ) (a : NodeId) → slice_get order j ≡ Some a → slice_get order k ≡ Some a → j ≡ k
    stands_once j k a at there = go (cases_order j k)
      where
        go : (j ≡ k) ⊎ ((j < k) ⊎ (k < j)) → j ≡ k
        go (inl same) = same
        go (inr (inl less)) = absurd (earlier_differs j k a at there less)
        go (inr (inr more)) = absurd (earlier_differs k j a there at more)

pub order_of : (p : Parts) (order : List NodeId) → OrdersAreSorted → IsInOrder p order → IsOrder p order
order_of p order sorted h =
    record {
      nodes = h.nodes;
      all = h.all;
      once = stands_once p order h;
      earlier = λ j k a b at there needed. sorted p order h k j a b at there needed;
    }
