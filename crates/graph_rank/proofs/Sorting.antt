-- Nodes with their ranks, sorted.
use Rattle.std.proofs.Common.{◌≡◌, ◌≢◌, ◌<◌, ◌≤◌, ◌+◌, ℕ, false, List, map, length, get_or, refl, ap, sym, ◌∙◌, subst, arith, ◌⊎◌, inl, inr, IsPermutation, is_lt, nat_cmp}
use Rattle.std.specs.List as lists
use Rattle.std.specs.List.{All, Contains}
use Rattle.std.specs.Ordering.{MatchOrdering, ordering_then}
use Rattle.std.specs.declared.cmp.Ordering.{Ordering}
use Rattle.std.specs.declared.cmp.Ordering.TheVariants.{Less, Equal, Greater}
use Rattle.std.proofs.lemmas.Bool.{cases_eq}
use Rattle.std.proofs.lemmas.Cmp.{ranked as order_says}
use Rattle.std.proofs.lemmas.List.{get_or_default, get_or-map, length-map}
use Rattle.std.proofs.lemmas.List.Edits.{swapped_from_swap, length-swap}
use Rattle.std.proofs.lemmas.List.Sorted.{All-permutation, Contains-permutation, IsPermutation-keeps, length_permutation}
use Rattle.graph_rank.specs.declared.search.Mark.{Mark}
use Rattle.graph_rank.specs.declared.search.Mark.TheVariants.{Fresh}
use Rattle.graph_rank.specs.declared.order.Place.{Place}
use Rattle.graph_rank.specs.Ranks.{ComesBefore}
use Rattle.graph_rank.specs.Search.{rank_of, rank_at}
use Rattle.graph_rank.specs.Places.{place_of, ArePlaces, IsInOrder}

-- what the order of pairs says of two places of different nodes
comes_first : (x y u v : ℕ) → is_lt (ordering_then (nat_cmp y x) (nat_cmp v u)) ≡ false → u ≢ v → (x < y) ⊎ ((x ≡ y) × (u < v))
comes_first x y u v h other = go (nat_cmp y x) (nat_cmp v u) (order_says y x _ refl) (order_says v u _ refl) h
  where
    go : (r s : Ordering) → MatchOrdering r (y < x) (y ≡ x) (x < y) → MatchOrdering s (v < u) (v ≡ u) (u < v)
        → is_lt (ordering_then r s) ≡ false → (x < y) ⊎ ((x ≡ y) × (u < v))
    go Less s p q h = absurd (cc)
    go Equal Less p q h = absurd (cc)
    go Equal Equal p q h = absurd (other (sym q))
    go Equal Greater p q h = inr (sym p, q)
    go Greater s p q h = inl p

nowhere : Place
nowhere = record { rank = 0; node = 0 }

node_at : List Place → ℕ → ℕ
node_at ps k = (get_or ps k nowhere).node

-- no node stands twice
record AreApart (ps : List Place) : Type 0 where
  apart : (i j : ℕ) → i < length ps → j < length ps → node_at ps i ≡ node_at ps j → i ≡ j

-- where an item stood before two were swapped
Came : ℕ → ℕ → ℕ → ℕ → Type 0
Came a b m k = ((m ≡ a) × (k ≡ b)) ⊎ (((m ≡ b) × (k ≡ a)) ⊎ ((m ≢ a) × (m ≢ b) × (k ≡ m)))

came_once : (a b i j k : ℕ) → Came a b i k → Came a b j k → i ≡ j
unfolding Came
came_once a b i j k (inl p) (inl q) = omega arith
came_once a b i j k (inl p) (inr (inl q)) = omega arith
came_once a b i j k (inl p) (inr (inr q)) = omega arith
came_once a b i j k (inr (inl p)) (inl q) = omega arith
came_once a b i j k (inr (inl p)) (inr (inl q)) = omega arith
came_once a b i j k (inr (inl p)) (inr (inr q)) = omega arith
came_once a b i j k (inr (inr p)) (inl q) = omega arith
came_once a b i j k (inr (inr p)) (inr (inl q)) = omega arith
came_once a b i j k (inr (inr p)) (inr (inr q)) = omega arith

came_from : (ps : List Place) (a b : ℕ) → a < length ps → b < length ps → (m : ℕ) → m < length ps
    → (k : ℕ) × (k < length ps) × (node_at (lists.swap ps a b) m ≡ node_at ps k) × Came a b m k
unfolding node_at Came
came_from ps a b a-in b-in m m-in =
    let s = swapped_from_swap ps (lists.swap ps a b) a b nowhere a-in b-in refl in
    go s.0 s.1 s.2 (cases_eq m a) (cases_eq m b)
  where
    go : (get_or (lists.swap ps a b) a nowhere ≡ get_or ps b nowhere) → (get_or (lists.swap ps a b) b nowhere ≡ get_or ps a nowhere)
        → ((n : ℕ) → (n ≡ a → ⊥) → (n ≡ b → ⊥) → get_or (lists.swap ps a b) n nowhere ≡ get_or ps n nowhere)
        → (m ≡ a) ⊎ (m ≡ a → ⊥) → (m ≡ b) ⊎ (m ≡ b → ⊥)
        → (k : ℕ) × (k < length ps) × ((get_or (lists.swap ps a b) m nowhere).node ≡ (get_or ps k nowhere).node)
        × (((m ≡ a) × (k ≡ b)) ⊎ (((m ≡ b) × (k ≡ a)) ⊎ ((m ≢ a) × (m ≢ b) × (k ≡ m))))
    go at-a at-b rest (inl same) other = (b, b-in, rw same (ap (λ (p : Place). p.node) at-a), inl (same, refl))
    go at-a at-b rest (inr not-a) (inl same) = (a, a-in, rw same (ap (λ (p : Place). p.node) at-b), inr (inl (same, refl)))
    go at-a at-b rest (inr not-a) (inr not-b) = (m, m-in, ap (λ (p : Place). p.node) (rest m not-a not-b), inr (inr (not-a, not-b, refl)))

swap_apart : (ps : List Place) (a b : ℕ) → a < length ps → b < length ps → AreApart ps → AreApart (lists.swap ps a b)
swap_apart ps a b a-in b-in s = record {
  apart = λ i j i-in j-in same.
      let size = length-swap ps a b in
      let one = came_from ps a b a-in b-in i (omega arith) in
      let two = came_from ps a b a-in b-in j (omega arith) in
      let k : one.0 ≡ two.0 = s.apart one.0 two.0 one.1 two.1 (sym one.2 ∙ same ∙ two.2) in
      came_once a b i j two.0 (subst (λ (n : ℕ). Came a b i n) k one.3) two.3;
}

-- a place has the rank of its node, which is there
record IsOwn (marks : List Mark) (p : Place) : Type 0 where
  rank : p.rank ≡ rank_at marks p.node
  there : p.node < length marks

module _ (marks : List Mark) (before after : List Place) (s : ArePlaces marks (length marks) before) (moved : IsPermutation before after) where
  stands : (k : ℕ) (d : Place) → k < length before → get_or before k d ≡ place_of marks k
  stands k d below = get_or_default before k d (place_of marks k) below ∙ s.each k (let e = s.count in omega arith)

  own : All (IsOwn marks) after
  own = All-permutation (IsOwn marks) before after moved
      (λ k d below. subst (λ (p : Place). IsOwn marks p) (sym (stands k d below)) (record { rank = refl; there = let e = s.count in omega arith }))

  apart_first : AreApart before
  unfolding node_at
  apart_first = record {
    apart = λ i j i-in j-in same.
        let one : (get_or before i nowhere).node ≡ i = ap (λ (p : Place). p.node) (stands i nowhere i-in) in
        let two : (get_or before j nowhere).node ≡ j = ap (λ (p : Place). p.node) (stands j nowhere j-in) in
        sym one ∙ same ∙ two;
  }

  apart_last : AreApart after
  apart_last = IsPermutation-keeps before AreApart apart_first swap_apart after moved

  size : length after ≡ length marks
  size = length_permutation before after moved ∙ s.count

  module _ (sorted : (k : ℕ) (d : Place) → 0 ≤ k → k + 1 < length after
      → is_lt (ordering_then (nat_cmp (get_or after (k + 1) d).rank (get_or after k d).rank) (nat_cmp (get_or after (k + 1) d).node (get_or after k d).node)) ≡ false) where
    nodes : List ℕ
    nodes = map (λ (p : Place). p.node) after

    node_is : (k : ℕ) → k < length after → get_or (map (λ (p : Place). p.node) after) k 0 ≡ (get_or after k nowhere).node
    node_is k below = get_or-map (λ (p : Place). p.node) after k nowhere 0 below

    rank_is : (k : ℕ) → k < length after → get_or (map rank_of marks) (get_or after k nowhere).node 0 ≡ (get_or after k nowhere).rank
    rank_is k below =
        let o = own k nowhere below in
        get_or-map rank_of marks (get_or after k nowhere).node Fresh 0 o.there ∙ sym o.rank

    sorted_rises : (k : ℕ) → k + 1 < length after
        → ComesBefore (map rank_of marks) (get_or (map (λ (p : Place). p.node) after) k 0) (get_or (map (λ (p : Place). p.node) after) (k + 1) 0)
    unfolding node_at
    sorted_rises k below =
        let first : k < length after = omega arith in
        let other : (get_or after k nowhere).node ≢ (get_or after (k + 1) nowhere).node =
        λ same. let bad : k ≡ k + 1 = apart_last.apart k (k + 1) first below same in omega arith in
        rw (node_is k first, node_is (k + 1) below, rank_is k first, rank_is (k + 1) below)
        (comes_first _ _ _ _ (sorted k nowhere (omega arith) below) other)

    sorted_all : (n : ℕ) → n < length marks → Contains (map (λ (p : Place). p.node) after) n
    sorted_all n below =
        let start : Contains before (place_of marks n) = (n, let e = s.count in omega arith, s.each n below) in
        let end = Contains-permutation before after (place_of marks n) moved start in (
          end.0,
          let e = length-map after (λ (p : Place). p.node) in let h = end.1 in omega arith,
          get_or-map (λ (p : Place). p.node) after end.0 (place_of marks n) n end.1 ∙ ap (λ (p : Place). p.node) end.2,
        )

    pub put_in_order : (ranks order : List ℕ) → ranks ≡ map rank_of marks → order ≡ map (λ (p : Place). p.node) after
        → IsInOrder marks (record { ranks = ranks; order = order })
    put_in_order ranks order e f = rw (e, f) (record {
      ranks = refl;
      order_count = length-map after (λ (p : Place). p.node) ∙ size;
      in_range = λ k below.
          let first : k < length after = let h = length-map after (λ (p : Place). p.node) in omega arith in
          rw (node_is k first) (own k nowhere first).there;
      all = sorted_all;
      rises = λ k below.
          let next : k + 1 < length after = let h = length-map after (λ (p : Place). p.node) in omega arith in
          sorted_rises k next;
    })
