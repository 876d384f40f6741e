-- Ranks, orders and cycles of a design are those of the graph of its numbers.
use Rattle.std.proofs.Common.{◌≡◌, ◌<◌, ◌≤◌, ◌+◌, ℕ, zero, suc, max, List, [], ◌∷◌, ◌++◌, Some, Option, map, length, get_or, refl, ap, sym, ◌∙◌, subst, arith, ◌⊎◌, inl, inr, length-append}
use Rattle.std.specs.Prelude.{slice_get}
use Rattle.std.specs.List.{Contains}
use Rattle.std.specs.Option.{option_map}
use Rattle.std.proofs.lemmas.Bool.{cases_eq, cases_order}
use Rattle.std.proofs.lemmas.List.{get_or-map, length-map, map-append, get_or_append_left}
use Rattle.std.proofs.lemmas.List.Elements.{Contains-get_or}
use Rattle.std.proofs.lemmas.Option.{slice_get-map, slice_get-get_or}
use Rattle.design_core.specs.declared.node.NodeId.{NodeId}
use Rattle.design_core.specs.declared.parts.Parts.{Parts}
use Rattle.design_core.specs.Design.{IsDesign}
use Rattle.design_core.specs.Dependency.{dependencies, IsNode, above, HasRank, Precedes}
use Rattle.design_core.specs.Dependency.HasRank.{ranked}
use Rattle.graph_rank.specs.Rows.{row, InRange}
use Rattle.graph_rank.specs.Ranks as graph
use Rattle.graph_rank.specs.Ranks.HasRank.{ranked as has}
use Rattle.graph_rank.specs.Cycles as cycles
use Rattle.graph_rank.specs.Answers.{RanksAreUnique}
use Rattle.clock_rank.specs.Orders.{ComesBefore, IsInOrder}
use Rattle.clock_rank.specs.Cycles.{Unranked, IsUpTo, IsFirst, IsNext, IsWalk, AreDistinct, IsCycle}
use Rattle.clock_rank.specs.Numbers.{net_node, all_nodes, number_of, node_at, row_of, rows}
use Rattle.clock_rank.proofs.Numbering.{at_number, number_at, precedes_from, same_number}
use Rattle.clock_rank.proofs.Closed.{depends_on_nodes}

-- lists of images
in_map : (f : NodeId → ℕ) (xs : List NodeId) (y : ℕ) → Contains (map f xs) y → (x : NodeId) × Contains xs x × (f x ≡ y)
in_map f xs y (k, below, is) =
    let size = length-map xs f in
    let here : k < length xs = omega arith in
    (get_or xs k (net_node 0), Contains-get_or xs k (net_node 0) here, sym (get_or-map f xs k (net_node 0) y here) ∙ is)

to_map : {X Y : Type 0} (f : X → Y) (xs : List X) (x : X) → Contains xs x → Contains (map f xs) (f x)
to_map f xs x (k, below, is) =
    let size = length-map xs f in
    let here : k < length (map f xs) = omega arith in
    (k, here, get_or-map f xs k x (f x) below ∙ ap f is)

read_map : (f : ℕ → NodeId) (xs : List ℕ) (k : ℕ) (a : NodeId) → slice_get (map f xs) k ≡ Some a → (k < length xs) × (f (get_or xs k 0) ≡ a)
read_map f [] k a at = absurd (cc)
read_map f (x ∷ xs) zero a at = (omega arith, cc)
read_map f (x ∷ xs) (suc k) a at = let rest = read_map f xs k a at in (omega (arith, rest.0), rest.1)

above_map : (number : NodeId → ℕ) (rank : ℕ → ℕ) (bs : List NodeId) → graph.above rank (map number bs) ≡ above (λ b. rank (number b)) bs
above_map number rank [] = refl
above_map number rank (b ∷ bs) = ap (λ k. max (rank (number b) + 1) k) (above_map number rank bs)

pub above_same : (f g : NodeId → ℕ) (bs : List NodeId) → ((b : NodeId) → Contains bs b → f b ≡ g b) → above f bs ≡ above g bs
above_same f g [] same = refl
above_same f g (b ∷ bs) same =
    let here : f b ≡ g b = same b (0, omega arith, refl) in
    let rest : above f bs ≡ above g bs = above_same f g bs (λ (c : NodeId) (h : Contains bs c). same c (suc h.0, omega (arith, h.1), h.2)) in
    rw (here, rest) refl

module _ (p : Parts) (d : IsDesign p) where
  pub rows_count : length (rows p) ≡ length (all_nodes p)
  rows_count = length-map (all_nodes p) (row_of p)

  row_at : (n : ℕ) → n < length (all_nodes p) → row (rows p) n ≡ row_of p (node_at p n)
  row_at n below = get_or-map (row_of p) (all_nodes p) n (net_node 0) [] below

  row_of_node : (a : NodeId) → IsNode p a → row (rows p) (number_of p a) ≡ row_of p a
  row_of_node a node = let h = number_at p a node in row_at (number_of p a) h.0 ∙ ap (row_of p) h.1

  is_node : (a b : NodeId) → IsNode p a → Contains (dependencies p a) b → IsNode p b
  is_node a b node h = depends_on_nodes p d a b node h

  -- a dependency of a node in its row, and the other way
  from_row : (a : NodeId) → IsNode p a → (e : ℕ) → Contains (row (rows p) (number_of p a)) e → (b : NodeId) × Contains (dependencies p a) b × (number_of p b ≡ e)
  from_row a node e h = in_map (number_of p) (dependencies p a) e (subst (λ (xs : List ℕ). Contains xs e) (row_of_node a node) h)

  to_row : (a : NodeId) → IsNode p a → (b : NodeId) → Contains (dependencies p a) b → Contains (row (rows p) (number_of p a)) (number_of p b)
  to_row a node b h = subst (λ (xs : List ℕ). Contains xs (number_of p b)) (sym (row_of_node a node)) (to_map (number_of p) (dependencies p a) b h)

  pub rows_closed : InRange (rows p)
  rows_closed n e below h =
      let size = rows_count in
      let at = at_number p n (omega arith) in
      let h-2 = subst (λ (i : ℕ). Contains (row (rows p) i) e) (sym at.1) h in
      let m = from_row (node_at p n) at.0 e h-2 in
      let there = (number_at p m.0 (is_node _ _ at.0 m.1)).0 in
      let same = m.2 in
      omega arith

  pub to_design : (n k : ℕ) → graph.HasRank (rows p) n k → HasRank p (node_at p n) k
  to_design n k (has n1 k1 rank below deps is) =
      let size = rows_count in
      let at = at_number p n1 (omega arith) in
      ranked (node_at p n1) k1 (λ b. rank (number_of p b))
      (λ b h.
      let there = subst (λ (i : ℕ). Contains (row (rows p) i) (number_of p b)) at.1 (to_row (node_at p n1) at.0 b h) in
      subst (λ (c : NodeId). HasRank p c (rank (number_of p b))) (number_at p b (is_node _ _ at.0 h)).1
      (to_design (number_of p b) (rank (number_of p b)) (deps (number_of p b) there)))
      (is ∙ ap (graph.above rank) (row_at n1 (omega arith)) ∙ above_map (number_of p) rank (dependencies p (node_at p n1)))

  pub to_graph : (a : NodeId) (k : ℕ) → IsNode p a → HasRank p a k → graph.HasRank (rows p) (number_of p a) k
  to_graph a k node (ranked a1 k1 rank deps is) =
      let size = rows_count in
      let num = number_at p a1 node in
      let low = num.0 in
      has (number_of p a1) k1 (λ i. rank (node_at p i)) (omega arith)
      (λ e h.
      let m = from_row a1 node e h in
      let node-2 = is_node a1 m.0 node m.1 in
      let one = subst (λ (c : NodeId). graph.HasRank (rows p) (number_of p m.0) (rank c)) (sym (number_at p m.0 node-2).1)
      (to_graph m.0 (rank m.0) node-2 (deps m.0 m.1)) in
      subst (λ (i : ℕ). graph.HasRank (rows p) i (rank (node_at p i))) m.2 one)
      (is
      ∙ sym (above_same (λ b. rank (node_at p (number_of p b))) rank (dependencies p a1) (λ b h. ap rank (number_at p b (is_node _ _ node h)).1))
      ∙ sym (above_map (number_of p) (λ i. rank (node_at p i)) (dependencies p a1))
      ∙ ap (graph.above (λ i. rank (node_at p i))) (sym (row_of_node a1 node)))

  -- nodes without rank
  un_design : (n : ℕ) → cycles.Unranked (rows p) n → Unranked p (node_at p n)
  un_design n u =
      let size = rows_count in
      let low = u.in_range in
      let at = at_number p n (omega arith) in
      record {
        node = at.0;
        no_rank = λ k h. u.no_rank k (subst (λ (i : ℕ). graph.HasRank (rows p) i k) at.1 (to_graph (node_at p n) k at.0 h));
      }

  un_graph : (a : NodeId) → Unranked p a → cycles.Unranked (rows p) (number_of p a)
  un_graph a u =
      let size = rows_count in
      let num = number_at p a u.node in
      let low = num.0 in
      record {
        in_range = omega arith;
        no_rank = λ k h. u.no_rank k (subst (λ (c : NodeId). HasRank p c k) num.1 (to_design (number_of p a) k h));
      }

  up_to : (a b : NodeId) → IsNode p a → IsNode p b → number_of p a ≤ number_of p b → IsUpTo a b
  up_to a b here there below = go (cases_eq (number_of p a) (number_of p b))
    where
      go : (number_of p a ≡ number_of p b) ⊎ (number_of p a ≡ number_of p b → ⊥) → (a ≡ b) ⊎ Precedes a b
      go (inl same) = inl (same_number p a b here there same)
      go (inr other) = inr (precedes_from p a b here there (omega arith))

  number_back : (n : ℕ) → n < length (rows p) → number_of p (node_at p n) ≡ n
  number_back n below = let size = rows_count in (at_number p n (omega arith)).1

  node_back : (n : ℕ) → n < length (rows p) → IsNode p (node_at p n)
  node_back n below = let size = rows_count in (at_number p n (omega arith)).0

  first_design : (n : ℕ) → cycles.IsFirst (rows p) n → IsFirst p (node_at p n)
  first_design n f = record {
    here = un_design n f.here;
    least = λ b u.
        let low = f.least (number_of p b) (un_graph b u) in
        let same = number_back n f.here.in_range in
        up_to (node_at p n) b (node_back n f.here.in_range) u.node (omega arith);
  }

  next_design : (i j : ℕ) → i < length (rows p) → cycles.IsNext (rows p) i j → IsNext p (node_at p i) (node_at p j)
  next_design i j below s = record {
    needed =
        let m = from_row (node_at p i) (node_back i below) j (subst (λ (n : ℕ). Contains (row (rows p) n) j) (sym (number_back i below)) s.needed) in
        let same : m.0 ≡ node_at p j = sym (number_at p m.0 (is_node _ _ (node_back i below) m.1)).1 ∙ ap (node_at p) m.2 in
        subst (λ (b : NodeId). Contains (dependencies p (node_at p i)) b) same m.1;
    here = un_design j s.here;
    least = λ b h u.
        let there = subst (λ (n : ℕ). Contains (row (rows p) n) (number_of p b)) (number_back i below) (to_row (node_at p i) (node_back i below) b h) in
        let low = s.least (number_of p b) there (un_graph b u) in
        let same = number_back j s.here.in_range in
        up_to (node_at p j) b (node_back j s.here.in_range) u.node (omega arith);
  }

  -- each node of a walk is one of the graph
  pub walk_in : (walk : List ℕ) → cycles.IsWalk (rows p) walk → (k : ℕ) → k < length walk → get_or walk k 0 < length (rows p)
  walk_in walk w zero below = w.first.here.in_range
  walk_in walk w (suc k) below =
      let e : k + 1 ≡ suc k = omega arith in
      subst (λ (i : ℕ). get_or walk i 0 < length (rows p)) e (w.steps k (omega arith)).here.in_range

  walk_design : (walk : List ℕ) → cycles.IsWalk (rows p) walk → IsWalk p (map (node_at p) walk)
  walk_design walk w = record {
    first = λ a at.
        let r = read_map (node_at p) walk 0 a at in
        subst (λ (b : NodeId). IsFirst p b) r.1 (first_design (get_or walk 0 0) w.first);
    steps = λ k a b at at-2.
        let r = read_map (node_at p) walk k a at in
        let q = read_map (node_at p) walk (k + 1) b at-2 in
        let step = next_design (get_or walk k 0) (get_or walk (k + 1) 0) (walk_in walk w k r.0) (w.steps k q.0) in
        subst (λ (c : NodeId). IsNext p a c) q.1 (subst (λ (c : NodeId). IsNext p c (node_at p (get_or walk (k + 1) 0))) r.1 step);
  }

  distinct_design : (nodes : List ℕ) → ((k : ℕ) → k < length nodes → get_or nodes k 0 < length (rows p)) → cycles.AreDistinct nodes
      → AreDistinct (map (node_at p) nodes)
  distinct_design nodes there apart j k a at at-2 = go (cases_order j k)
    where
      same : get_or nodes j 0 ≡ get_or nodes k 0
      same =
          let r = read_map (node_at p) nodes j a at in
          let q = read_map (node_at p) nodes k a at-2 in
          sym (number_back _ (there j r.0)) ∙ ap (number_of p) (r.1 ∙ sym q.1) ∙ number_back _ (there k q.0)

      go : (j ≡ k) ⊎ ((j < k) ⊎ (k < j)) → j ≡ k
      go (inl e) = e
      go (inr (inl less)) = absurd (apart j k less (read_map (node_at p) nodes k a at-2).0 same)
      go (inr (inr more)) = absurd (apart k j more (read_map (node_at p) nodes j a at).0 (sym same))

  pub cycle_design : (cycle : List ℕ) → cycles.IsCycle (rows p) cycle → IsCycle p (map (node_at p) cycle)
  cycle_design cycle c = record {
    lead = map (node_at p) c.lead;
    again = node_at p (get_or cycle 0 0);
    begins = slice_get-map (node_at p) cycle 0 ∙ ap (λ (o : Option ℕ). option_map (node_at p) o) (slice_get-get_or cycle 0 0 c.some);
    walk = rw (sym (map-append (node_at p) c.lead cycle), sym (map-append (node_at p) (c.lead ++ cycle) (get_or cycle 0 0 ∷ [])))
        (walk_design (c.lead ++ cycle ++ get_or cycle 0 0 ∷ []) c.walk);
    once = rw (sym (map-append (node_at p) c.lead cycle)) (distinct_design (c.lead ++ cycle) there c.once);
  }
    where
      there : (k : ℕ) → k < length (c.lead ++ cycle) → get_or (c.lead ++ cycle) k 0 < length (rows p)
      there k below =
          let e = length-append (c.lead ++ cycle) (get_or cycle 0 0 ∷ []) in
          let h = walk_in (c.lead ++ cycle ++ get_or cycle 0 0 ∷ []) c.walk k (omega arith) in
          rw (get_or_append_left (c.lead ++ cycle) (get_or cycle 0 0 ∷ []) 0 k below) at h

  -- the order
  node_rank : (r : graph.Ranking) → graph.IsRanking (rows p) r → (a : NodeId) → IsNode p a → HasRank p a (get_or r.ranks (number_of p a) 0)
  node_rank r s a node =
      let size = rows_count in
      let num = number_at p a node in
      let low = num.0 in
      subst (λ (c : NodeId). HasRank p c (get_or r.ranks (number_of p a) 0)) num.1 (to_design (number_of p a) _ (s.has_rank (number_of p a) (omega arith)))

  before_design : RanksAreUnique → (r : graph.Ranking) → graph.IsRanking (rows p) r → (x y : ℕ) → x < length (rows p) → y < length (rows p)
      → graph.ComesBefore r.ranks x y → ComesBefore p (node_at p x) (node_at p y)
  before_design one r s x y x-in y-in before j k hj hk = go before
    where
      of_x : j ≡ get_or r.ranks x 0
      of_x = one (rows p) x j _ (subst (λ (i : ℕ). graph.HasRank (rows p) i j) (number_back x x-in) (to_graph (node_at p x) j (node_back x x-in) hj)) (s.has_rank x x-in)

      of_y : k ≡ get_or r.ranks y 0
      of_y = one (rows p) y k _ (subst (λ (i : ℕ). graph.HasRank (rows p) i k) (number_back y y-in) (to_graph (node_at p y) k (node_back y y-in) hk)) (s.has_rank y y-in)

      go : (get_or r.ranks x 0 < get_or r.ranks y 0) ⊎ ((get_or r.ranks x 0 ≡ get_or r.ranks y 0) × (x < y)) → (j < k) ⊎ ((j ≡ k) × Precedes (node_at p x) (node_at p y))
      go (inl less) = let e = of_x in let f = of_y in inl (omega arith)
      go (inr (same, less)) =
          let back-x = number_back x x-in in
          let back-y = number_back y y-in in
          inr (of_x ∙ same ∙ sym of_y, precedes_from p (node_at p x) (node_at p y) (node_back x x-in) (node_back y y-in) (omega arith))

  pub order_design : RanksAreUnique → (r : graph.Ranking) → graph.IsRanking (rows p) r → IsInOrder p (map (node_at p) r.order)
  order_design one r s = record {
    ranked = λ a node. (get_or r.ranks (number_of p a) 0, node_rank r s a node);
    nodes = λ k a at.
        let q = read_map (node_at p) r.order k a at in
        subst (λ (b : NodeId). IsNode p b) q.1 (node_back _ (s.in_range k q.0));
    all = λ a node.
        let size = rows_count in
        let num = number_at p a node in
        let low = num.0 in
        subst (λ (b : NodeId). Contains (map (node_at p) r.order) b) num.1 (to_map (node_at p) r.order (number_of p a) (s.all (number_of p a) (omega arith)));
    rises = λ k a b at at-2.
        let q = read_map (node_at p) r.order k a at in
        let q-2 = read_map (node_at p) r.order (k + 1) b at-2 in
        let h = before_design one r s _ _ (s.in_range k q.0) (s.in_range (k + 1) q-2.0) (s.rises k q-2.0) in
        subst (λ (c : NodeId). ComesBefore p a c) q-2.1 (subst (λ (c : NodeId). ComesBefore p c (node_at p (get_or r.order (k + 1) 0))) q.1 h);
  }

  -- the rank of a node, by its number
  pub rank_design : (r : graph.Ranking) → graph.IsRanking (rows p) r → (a : NodeId) → IsNode p a → (n k : ℕ) → n ≡ number_of p a → k ≡ get_or r.ranks n 0 → HasRank p a k
  rank_design r s a node n k is rank = rw (rank, is) (node_rank r s a node)

-- what a list of images reads at a place
pub read_image : (f : ℕ → NodeId) (xs : List ℕ) (k : ℕ) → k < length (map f xs) → slice_get (map f xs) k ≡ Some (f (get_or xs k 0))
read_image f xs k below =
    let size = length-map xs f in
    slice_get-map f xs k ∙ ap (λ (o : Option ℕ). option_map f o) (slice_get-get_or xs k 0 (omega arith))
