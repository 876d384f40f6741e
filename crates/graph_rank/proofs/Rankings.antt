-- Laws of ranks: they are unique, they fall along dependencies, and what this says of order and cycles.
use Rattle.std.proofs.Common.{◌≡◌, ◌<◌, ◌≤◌, ◌+◌, ◌-◌, ℕ, zero, suc, true, false, List, [], ◌∷◌, ◌++◌, length, get_or, refl, ap, sym, ◌∙◌, arith, ◌⊎◌, inl, inr, length-append}
use Rattle.std.specs.List.{Contains}
use Rattle.std.proofs.lemmas.Bool.{cases_lt}
use Rattle.std.proofs.lemmas.List.{get_or_past, get_or-map, length-map, get_or_append_left, get_or-append-add, get_or_push}
use Rattle.graph_rank.specs.declared.search.Mark.{Mark}
use Rattle.graph_rank.specs.declared.search.Mark.TheVariants.{Fresh}
use Rattle.graph_rank.specs.Rows.{row, Leads}
use Rattle.graph_rank.specs.Rows.Leads.{step, through}
use Rattle.graph_rank.specs.Ranks.{above, HasRank, ComesBefore, Ranking, IsRanking}
use Rattle.graph_rank.specs.Ranks.HasRank.{ranked as has}
use Rattle.graph_rank.specs.Cycles.{IsFirst, IsCycle}
use Rattle.graph_rank.specs.Search.{ranked, rank_of, mark_at, rank_at, AreMarks}
use Rattle.graph_rank.specs.Places.{IsInOrder}
use Rattle.graph_rank.specs.Answers.{RanksAreUnique, RankingsAreSorted, RankedHasNoCycle, CyclesComeRound}
use Rattle.graph_rank.proofs.Walks.{unranked_from, mark_from}

-- the number above depends on the ranks of these nodes alone
above_same : (f g : ℕ → ℕ) (ds : List ℕ) → ((d : ℕ) → Contains ds d → f d ≡ g d) → above f ds ≡ above g ds
above_same f g [] same = refl
above_same f g (d ∷ ds) same =
    let here : f d ≡ g d = same d (0, omega arith, refl) in
    let rest : above f ds ≡ above g ds = above_same f g ds (λ (e : ℕ) (h : Contains ds e). same e (suc h.0, omega (arith, h.1), h.2)) in
    rw (here, rest) refl

-- the number above is greater than each of these ranks
above_more : (f : ℕ → ℕ) (ds : List ℕ) (d k : ℕ) → k < length ds → get_or ds k d ≡ d → f d < above f ds
above_more f [] d k below is = absurd (omega arith)
above_more f (e ∷ ds) d zero below is = let same : f e ≡ f d = ap f is in omega arith
above_more f (e ∷ ds) d (suc k) below is = let rest = above_more f ds d k (omega arith) is in omega arith

pub one_rank : RanksAreUnique
one_rank rows n j k (has n1 j1 f below1 deps1 is1) (has n2 k2 g below2 deps2 is2) =
    is1 ∙ above_same f g (row rows n) (λ d h. one_rank rows d (f d) (g d) (deps1 d h) (deps2 d h)) ∙ sym is2

-- a dependency has a lesser rank
lower : (rows : List (List ℕ)) (n k d : ℕ) → HasRank rows n k → Contains (row rows n) d → (j : ℕ) × HasRank rows d j × (j < k)
lower rows n k d (has n1 k1 f below deps is) h =
    let more = above_more f (row rows n1) d h.0 h.1 h.2 in (f d, deps d h, omega arith)

leads_lower : (rows : List (List ℕ)) (a b k : ℕ) → Leads rows a b → HasRank rows a k → (j : ℕ) × HasRank rows b j × (j < k)
leads_lower rows a b k (step a1 b1 h) r = lower rows a1 k b1 r h
leads_lower rows a b k (through a1 m c1 h rest) r =
    let one = lower rows a1 k m r h in
    let two = leads_lower rows m c1 one.0 rest one.1 in
    let x = one.2 in let y = two.2 in
    (two.0, two.1, omega arith)

-- a node that needs another is one of the graph
in_graph : (rows : List (List ℕ)) (n d : ℕ) → Contains (row rows n) d → n < length rows
in_graph rows n d h = go (cases_lt n (length rows))
  where
    go : (n < length rows) ⊎ (length rows ≤ n) → n < length rows
    go (inl below) = below
    go (inr past) = let none : length (row rows n) ≡ 0 = ap length (get_or_past rows n [] past) in let some = h.1 in absurd (omega arith)

starts_in : (rows : List (List ℕ)) (a b : ℕ) → Leads rows a b → a < length rows
starts_in rows a b (step a1 b1 h) = in_graph rows a1 b1 h
starts_in rows a b (through a1 m c1 h rest) = in_graph rows a1 m h

pub no_cycle : RankedHasNoCycle
no_cycle rows all n l =
    let r = all n (starts_in rows n n l) in
    let s = leads_lower rows n n r.0 l r.1 in
    let same : s.0 ≡ r.0 = one_rank rows n s.0 r.0 s.1 r.1 in
    let less = s.2 in
    omega arith

-- ranks do not fall along the order
climbs : (rows : List (List ℕ)) (r : Ranking) → IsRanking rows r → (n k : ℕ) → k + n < length r.order
    → get_or r.ranks (get_or r.order k 0) 0 ≤ get_or r.ranks (get_or r.order (k + n) 0) 0
climbs rows r s zero k below = let z : k + 0 ≡ k = omega arith in rw z (omega arith)
climbs rows r s (suc n) k below =
    let first = climbs rows r s n k (omega arith) in
    let e : k + suc n ≡ k + n + 1 = omega arith in
    let next = go (s.rises (k + n) (omega arith)) in
    rw e (omega arith)
  where
    go : ComesBefore r.ranks (get_or r.order (k + n) 0) (get_or r.order (k + n + 1) 0)
        → get_or r.ranks (get_or r.order (k + n) 0) 0 ≤ get_or r.ranks (get_or r.order (k + n + 1) 0) 0
    go (inl less) = omega arith
    go (inr same) = let e = same.0 in omega arith

pub sorted_order : RankingsAreSorted
sorted_order rows r s i j i-in j-in h = go (cases_lt j i)
  where
    go : (j < i) ⊎ (i ≤ j) → j < i
    go (inl before) = before
    go (inr past) =
        let low = lower rows (get_or r.order i 0) _ (get_or r.order j 0) (s.has_rank _ (s.in_range i i-in)) h in
        let same : low.0 ≡ get_or r.ranks (get_or r.order j 0) 0 = one_rank rows _ _ _ low.1 (s.has_rank _ (s.in_range j j-in)) in
        let less = low.2 in
        let e : i + (j - i) ≡ j = omega arith in
        let up = rw e at (climbs rows r s (j - i) i (omega arith)) in
        absurd (omega arith)

-- the walk comes round from each node of the cycle to the first
module _ (rows : List (List ℕ)) (cycle : List ℕ) (s : IsCycle rows cycle) where
  node_is : (i : ℕ) → i < length cycle → get_or (s.lead ++ cycle ++ get_or cycle 0 0 ∷ []) (length s.lead + i) 0 ≡ get_or cycle i 0
  node_is i below =
      get_or_append_left (s.lead ++ cycle) (get_or cycle 0 0 ∷ []) 0 (length s.lead + i) (omega (arith, length-append s.lead cycle))
      ∙ get_or-append-add s.lead cycle i 0

  end_is : (i : ℕ) → i ≡ length cycle → get_or (s.lead ++ cycle ++ get_or cycle 0 0 ∷ []) (length s.lead + i) 0 ≡ get_or cycle 0 0
  end_is i same = get_or_push (s.lead ++ cycle) (get_or cycle 0 0) 0 (length s.lead + i) (omega (arith, length-append s.lead cycle))

  needs_at : (i : ℕ) → i < length cycle
      → Contains (row rows (get_or cycle i 0)) (get_or (s.lead ++ cycle ++ get_or cycle 0 0 ∷ []) (length s.lead + (i + 1)) 0)
  needs_at i below =
      let e : length s.lead + i + 1 ≡ length s.lead + (i + 1) = omega arith in
      let all = length-append (s.lead ++ cycle) (get_or cycle 0 0 ∷ []) in
      let some = length-append s.lead cycle in
      let h = (s.walk.steps (length s.lead + i) (omega arith)).needed in
      rw (node_is i below, e) at h

  round : (n i : ℕ) → i + n + 1 ≡ length cycle → Leads rows (get_or cycle i 0) (get_or cycle 0 0)
  round zero i end =
      let h = needs_at i (omega arith) in
      let last : i + 1 ≡ length cycle = omega arith in
      step _ _ (rw (end_is (i + 1) last) at h)
  round (suc n) i end =
      let h = needs_at i (omega arith) in
      let next : i + 1 < length cycle = omega arith in
      through _ (get_or cycle (i + 1) 0) _ (rw (node_is (i + 1) next) at h) (round n (i + 1) (omega arith))

pub comes_round : CyclesComeRound
comes_round rows cycle s = round rows cycle s (length cycle - 1) 0 (let h = s.some in omega arith)

-- all nodes are marked with a rank, and in order
pub ranking_from : (rows : List (List ℕ)) (marks : List Mark) → AreMarks rows marks
    → ((n : ℕ) → n < length marks → ranked (mark_at marks n) ≡ true) → (r : Ranking) → IsInOrder marks r → IsRanking rows r
ranking_from rows marks m all r o =
    let count = m.count in
    let same = o.ranks in
    let size : length r.ranks ≡ length marks = ap length o.ranks ∙ length-map marks rank_of in
    record {
      ranks_count = size ∙ m.count;
      order_count = o.order_count ∙ m.count;
      has_rank = λ n below.
          let there : n < length marks = omega arith in
          let is : get_or r.ranks n 0 ≡ rank_at marks n = rw o.ranks (get_or-map rank_of marks n Fresh 0 there) in
          rw is (m.has_rank n below (all n there));
      in_range = λ k below. rw (sym m.count) (o.in_range k below);
      all = λ n below. o.all n (omega arith);
      rises = o.rises;
    }

-- the first node without rank
pub first_from : (rows : List (List ℕ)) (marks : List Mark) → AreMarks rows marks → (seen : List Mark) → seen ≡ marks
    → (n : ℕ) → (n < length seen) × (ranked (mark_at seen n) ≡ false) × ((i : ℕ) → i < n → ranked (mark_at seen i) ≡ true)
    → IsFirst rows n
first_from rows marks m seen same n h =
    let h-2 = rw same at h in
    let count = m.count in
    let below : n < length rows = omega (arith, h-2.0) in
    record {
      here = unranked_from rows marks m n below h-2.1;
      least = λ i u. go i (mark_from rows marks m i u) h-2.2 (cases_lt i n);
    }
  where
    go : (i : ℕ) → ranked (mark_at marks i) ≡ false → ((i : ℕ) → i < n → ranked (mark_at marks i) ≡ true) → (i < n) ⊎ (n ≤ i) → n ≤ i
    go i so all (inl before) = let bad = all i before in absurd (cc)
    go i so all (inr past) = past
