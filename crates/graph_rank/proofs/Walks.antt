-- The walk from the least node without rank to the cycle.
use Rattle.std.proofs.Common.{◌≡◌, ◌≢◌, ◌<◌, ◌≤◌, ◌+◌, ◌-◌, ◌^◌, ℕ, Bool, true, false, cond, Option, Some, None, List, [], ◌∷◌, ◌++◌, length, get_or, set, take, drop, refl, ap, sym, ◌∙◌, subst, arith, ◌⊎◌, inl, inr, length-append}
use Rattle.std.specs.List.{All, Contains, count_by}
use Rattle.std.specs.Option.{is_none}
use Rattle.std.proofs.lemmas.Bool.{cases_eq, cases_lt}
use Rattle.std.proofs.lemmas.List.{length-set, get_or-set_same, get_or-set_other, get_or_append_left, get_or_push, get_or_default, get_or-drop, length-drop, take-append-drop}
use Rattle.std.proofs.lemmas.List.Elements.{Contains-get_or}
use Rattle.std.proofs.lemmas.List.Sums.{sum_by-set}
use Rattle.graph_rank.specs.declared.search.Mark.{Mark}
use Rattle.graph_rank.specs.Rows.{row}
use Rattle.graph_rank.specs.Ranks.{HasRank}
use Rattle.graph_rank.specs.Ranks.HasRank.{ranked as has}
use Rattle.graph_rank.specs.Cycles.{Unranked, IsFirst, IsNext, IsWalk, AreDistinct, IsCycle}
use Rattle.graph_rank.specs.Search.{ranked, mark_at, AreMarks}
use Rattle.graph_rank.specs.Walk.{IsLeastUnranked, IsWalking}
use Rattle.graph_rank.proofs.Marks.{place_in}

-- the marks tell the nodes without rank
pub no_rank : (rows : List (List ℕ)) (marks : List Mark) → AreMarks rows marks → (n k : ℕ)
    → ranked (mark_at marks n) ≡ false → HasRank rows n k → ⊥
no_rank rows marks m n k so (has a b rank below deps is) =
    let stuck = m.stuck a below so in no_rank rows marks m stuck.0 (rank stuck.0) stuck.2 (deps stuck.0 stuck.1)

pub unranked_from : (rows : List (List ℕ)) (marks : List Mark) → AreMarks rows marks → (n : ℕ) → n < length rows
    → ranked (mark_at marks n) ≡ false → Unranked rows n
unranked_from rows marks m n below so = record { in_range = below; no_rank = λ k h. no_rank rows marks m n k so h }

pub mark_from : (rows : List (List ℕ)) (marks : List Mark) → AreMarks rows marks → (n : ℕ) → Unranked rows n
    → ranked (mark_at marks n) ≡ false
mark_from rows marks m n u = go (ranked (mark_at marks n)) refl
  where
    go : (b : Bool) → ranked (mark_at marks n) ≡ b → b ≡ false
    go true so = absurd (u.no_rank _ (m.has_rank n u.in_range so))
    go false so = refl

pub next_from : (rows : List (List ℕ)) (marks : List Mark) → AreMarks rows marks → (a b : ℕ) → a < length rows
    → IsLeastUnranked marks (row rows a) b → IsNext rows a b
next_from rows marks m a b here l = record {
  needed = l.needed;
  here = unranked_from rows marks m b (m.bounds a b here l.needed) l.unranked;
  least = λ d needed u. l.least d needed (mark_from rows marks m d u);
}

-- the end of the loop over a row: there is one without rank, so it is not past all numbers
pub least_is : (marks : List Mark) (needs : List ℕ) (least : ℕ) → length marks < 2 ^ 32 → All (λ d. d < length marks) needs
    → (d : ℕ) × Contains needs d × (ranked (mark_at marks d) ≡ false)
    → ((k : ℕ) → k < length needs → ranked (mark_at marks (get_or needs k 0)) ≡ false → least ≤ get_or needs k 0)
    → (least ≡ 4294967295) ⊎ (Contains needs least × (ranked (mark_at marks least) ≡ false))
    → IsLeastUnranked marks needs least
least_is marks needs least small bounds (d, has_d, so) below here = record {
  needed = (there here).0;
  unranked = (there here).1;
  least = lower;
}
  where
    lower : (e : ℕ) → Contains needs e → ranked (mark_at marks e) ≡ false → least ≤ e
    lower e h u =
        let at = place_in needs e h in
        let low = below at.0 at.1 (subst (λ (i : ℕ). ranked (mark_at marks i) ≡ false) (sym at.2) u) in
        let same = at.2 in omega arith

    there : (least ≡ 4294967295) ⊎ (Contains needs least × (ranked (mark_at marks least) ≡ false))
        → Contains needs least × (ranked (mark_at marks least) ≡ false)
    there (inl most) =
        let at = place_in needs d has_d in
        let low = lower d has_d so in
        let bound = bounds at.0 0 at.1 in
        let same = at.2 in
        absurd (omega arith)
    there (inr h) = h

-- the walk goes on to a node without rank
pub tip : (rows : List (List ℕ)) (walk : List ℕ) (node : ℕ) → IsWalk rows (walk ++ node ∷ []) → Unranked rows node
tip rows walk node w = go (cases_eq (length walk) 0)
  where
    go : (length walk ≡ 0) ⊎ (length walk ≡ 0 → ⊥) → Unranked rows node
    go (inl none) = subst (λ (i : ℕ). Unranked rows i) (get_or_push walk node 0 0 none) w.first.here
    go (inr some) =
        let last : length walk ≡ length walk - 1 + 1 = omega arith in
        let is : get_or (walk ++ node ∷ []) (length walk - 1 + 1) 0 ≡ node = get_or_push walk node 0 (length walk - 1 + 1) last in
        let below : length walk - 1 + 1 < length (walk ++ node ∷ []) = omega (arith, length-append walk (node ∷ [])) in
        subst (λ (i : ℕ). Unranked rows i) is (w.steps (length walk - 1) below).here

module _ (rows : List (List ℕ)) (walk : List ℕ) (places : List (Option ℕ)) (node : ℕ) (s : IsWalking rows walk places node) where
  -- one step of the walk
  module _ (new : get_or places node None ≡ None) (next : ℕ) (to : IsNext rows node next) where
    room : node < length places
    room = let e = s.count in let h = s.next_bounds in omega arith

    longer : length (walk ++ node ∷ []) ≡ length walk + 1
    longer = length-append walk (node ∷ [])

    long : length (walk ++ node ∷ [] ++ next ∷ []) ≡ length walk + 2
    long = let e = longer in omega (arith, length-append (walk ++ node ∷ []) (next ∷ []))

    old : (k : ℕ) → k < length walk + 1 → get_or (walk ++ node ∷ [] ++ next ∷ []) k 0 ≡ get_or (walk ++ node ∷ []) k 0
    old k below = let e = longer in get_or_append_left (walk ++ node ∷ []) (next ∷ []) 0 k (omega arith)

    old_steps : (k : ℕ) → k + 1 < length (walk ++ node ∷ [] ++ next ∷ []) → IsNext rows (get_or (walk ++ node ∷ [] ++ next ∷ []) k 0) (get_or (walk ++ node ∷ [] ++ next ∷ []) (k + 1) 0)
    old_steps k below = go (cases_lt k (length walk))
      where
        go : (k < length walk) ⊎ (length walk ≤ k) → IsNext rows (get_or (walk ++ node ∷ [] ++ next ∷ []) k 0) (get_or (walk ++ node ∷ [] ++ next ∷ []) (k + 1) 0)
        go (inl before) =
            let e = longer in
            rw (old k (omega arith), old (k + 1) (omega arith)) (s.walks.steps k (omega arith))
        go (inr past) =
            let last : length walk ≡ k = omega (arith, long) in
            let end : length (walk ++ node ∷ []) ≡ k + 1 = let e = longer in omega arith in
            rw (old k (omega arith), get_or_push walk node 0 k last, get_or_push (walk ++ node ∷ []) next 0 (k + 1) end) to

    walked_walk : IsWalk rows (walk ++ node ∷ [] ++ next ∷ [])
    walked_walk = record {
      first = rw (old 0 (omega arith)) s.walks.first;
      steps = old_steps;
    }

    back : (k : ℕ) → k < length walk → get_or (walk ++ node ∷ []) k 0 ≡ get_or walk k 0
    back k below = get_or_append_left walk (node ∷ []) 0 k below

    other_node : (k : ℕ) → k < length walk → get_or walk k 0 ≢ node
    other_node k below = λ (same : get_or walk k 0 ≡ node). let was = s.found k below in let is : get_or places (get_or walk k 0) None ≡ None = rw same new in cc

    walked_nodes : (k : ℕ) → k < length (walk ++ node ∷ []) → get_or (walk ++ node ∷ []) k 0 < length rows
    walked_nodes k below = go (cases_lt k (length walk))
      where
        go : (k < length walk) ⊎ (length walk ≤ k) → get_or (walk ++ node ∷ []) k 0 < length rows
        go (inl before) = rw (back k before) (s.nodes k before)
        go (inr past) = let last : length walk ≡ k = omega (arith, longer) in rw (get_or_push walk node 0 k last) s.next_bounds

    walked_found : (k : ℕ) → k < length (walk ++ node ∷ []) → get_or (set places node (Some (length walk))) (get_or (walk ++ node ∷ []) k 0) None ≡ Some k
    walked_found k below = go (cases_lt k (length walk))
      where
        go : (k < length walk) ⊎ (length walk ≤ k) → get_or (set places node (Some (length walk))) (get_or (walk ++ node ∷ []) k 0) None ≡ Some k
        go (inl before) = rw (back k before, get_or-set_other places node (get_or walk k 0) (Some (length walk)) None (other_node k before)) (s.found k before)
        go (inr past) =
            let last : length walk ≡ k = omega (arith, longer) in
            rw (get_or_push walk node 0 k last, get_or-set_same places node (Some (length walk)) None room) (ap Some last)

    walked_placed : (n k : ℕ) → get_or (set places node (Some (length walk))) n None ≡ Some k → (k < length (walk ++ node ∷ [])) × (get_or (walk ++ node ∷ []) k 0 ≡ n)
    walked_placed n k so = go (cases_eq n node)
      where
        go : (n ≡ node) ⊎ (n ≡ node → ⊥) → (k < length (walk ++ node ∷ [])) × (get_or (walk ++ node ∷ []) k 0 ≡ n)
        go (inl same) =
            let now : get_or (set places node (Some (length walk))) n None ≡ Some (length walk) = rw same (get_or-set_same places node (Some (length walk)) None room) in
            let last : length walk ≡ k = cc in
            (omega (arith, longer), get_or_push walk node 0 k last ∙ sym same)
        go (inr other) =
            let was = s.placed n k (sym (get_or-set_other places node n (Some (length walk)) None other) ∙ so) in
            (omega (arith, longer, was.0), back k was.0 ∙ was.1)

    pub walked : IsWalking rows (walk ++ node ∷ []) (set places node (Some (length walk))) next
    walked = record {
      count = length-set places node (Some (length walk)) ∙ s.count;
      walks = walked_walk;
      nodes = walked_nodes;
      found = walked_found;
      placed = walked_placed;
      next_bounds = to.here.in_range;
    }

    pub fewer : count_by is_none (set places node (Some (length walk))) < count_by is_none places
    fewer =
        let e = sum_by-set (λ x. cond {A = ℕ} (is_none x) 1 0) places node (Some (length walk)) None room in
        let h = rw new at e in omega arith

  -- the node came before, so the walk is cut there
  pub comes_round : (k : ℕ) → get_or places node None ≡ Some k → IsCycle rows (drop k walk)
  comes_round k so = record {
    lead = take k walk;
    some = let e = length-drop k walk in let h = (s.placed node k so).0 in omega arith;
    walk = rw (take-append-drop k walk, again) s.walks;
    once = rw (take-append-drop k walk) distinct;
  }
    where
      again : get_or (drop k walk) 0 0 ≡ node
      again =
          let e : get_or (drop k walk) 0 0 ≡ get_or walk (k + 0) 0 = get_or-drop k walk 0 0 in
          let z : k + 0 ≡ k = omega arith in
          e ∙ ap (λ i. get_or walk i 0) z ∙ (s.placed node k so).1

      distinct : AreDistinct walk
      distinct i j order below = λ (same : get_or walk i 0 ≡ get_or walk j 0).
          let one = s.found i (omega arith) in
          let two = s.found j below in
          let both : get_or places (get_or walk i 0) None ≡ get_or places (get_or walk j 0) None = ap (λ n. get_or places n None) same in
          let bad : i ≡ j = cc in
          omega arith

-- the walk begins
pub starts : (rows : List (List ℕ)) (places : List (Option ℕ)) (node : ℕ) → IsFirst rows node → length places ≡ length rows
    → ((n : ℕ) → get_or places n None ≡ None) → IsWalking rows [] places node
starts rows places node f count empty = record {
  count = count;
  walks = record { first = f; steps = λ k below. absurd (omega arith) };
  nodes = λ k below. absurd (omega arith);
  found = λ k below. absurd (omega arith);
  placed = λ n k so. let e = empty n in absurd (cc);
  next_bounds = f.here.in_range;
}

-- what was read at a place
pub read_as : (xs : List (Option ℕ)) (n : ℕ) (o p : Option ℕ) → n < length xs → o ≡ get_or xs n o → o ≡ p → get_or xs n None ≡ p
read_as xs n o p below is same = get_or_default xs n None o below ∙ sym is ∙ same

pub in_places : (rows : List (List ℕ)) (walk : List ℕ) (places : List (Option ℕ)) (node : ℕ) → IsWalking rows walk places node → node < length places
in_places rows walk places node s = let e = s.count in let h = s.next_bounds in omega arith

-- the row of the node that the walk comes to
module _ (rows : List (List ℕ)) (marks : List Mark) (m : AreMarks rows marks) (walk : List ℕ) (places : List (Option ℕ)) (node : ℕ) (s : IsWalking rows walk places node)
    (needs : List ℕ) (is : needs ≡ row rows node) where
  pub needs_marked : All (λ d. d < length marks) needs
  needs_marked k d below =
      let has_d : Contains (row rows node) (get_or needs k d) = subst (λ (xs : List ℕ). Contains xs (get_or needs k d)) is (Contains-get_or needs k d below) in
      let e = m.count in let h = m.bounds node (get_or needs k d) s.next_bounds has_d in omega arith

  pub need_unranked : (d : ℕ) × Contains needs d × (ranked (mark_at marks d) ≡ false)
  need_unranked = rw is (m.stuck node s.next_bounds (mark_from rows marks m node (tip rows walk node s.walks)))

  pub walks_on : get_or places node None ≡ None → (next : ℕ) → IsLeastUnranked marks needs next
      → (walk-2 : List ℕ) (n : ℕ) → walk-2 ≡ walk ++ node ∷ [] → n ≡ length walk
      → IsWalking rows walk-2 (set places node (Some n)) next
  walks_on new next l walk-2 n e f =
      rw (e, f) (walked rows walk places node s new next (next_from rows marks m node next s.next_bounds (rw is at l)))

pub cut_is : (rows : List (List ℕ)) (walk : List ℕ) (places : List (Option ℕ)) (node : ℕ) → IsWalking rows walk places node
    → (k : ℕ) → get_or places node None ≡ Some k → (cycle tail : List ℕ) → cycle ≡ tail → tail ≡ drop k walk → IsCycle rows cycle
cut_is rows walk places node s k so cycle tail e f = rw (e, f) (comes_round rows walk places node s k so)

pub none_left : (o : Option ℕ) → ((x : ℕ) → o ≡ Some x → ⊥) → o ≡ None
none_left None not = refl
none_left (Some x) not = absurd (not x refl)
