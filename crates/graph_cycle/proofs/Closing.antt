-- The last group leaves the stack, and of its nodes it is told whether they lie on a cycle.
use Rattle.std.proofs.Common.{◌≡◌, ◌<◌, ◌≤◌, ◌+◌, ◌-◌, ◌*◌, ◌⊎◌, inl, inr, ℕ, zero, suc, Bool, true, false, cond, List, [], ◌∷◌, length, get_or, take, refl, sym, ap, ◌∙◌, subst, arith}
use Rattle.std.specs.List.{Contains, count_by}
use Rattle.std.proofs.lemmas.Bool.{cases_eq, cases_lt}
use Rattle.std.proofs.lemmas.List.{get_or-take, length-take-le}
use Rattle.std.proofs.lemmas.List.Sums.{sum_by-cons}
use Rattle.graph_rank.specs.Rows.{row, Leads}
use Rattle.graph_rank.specs.Rows.Leads.{step, through}
use Rattle.graph_rank.proofs.Marks.{stands_in, place_in}
use Rattle.graph_cycle.specs.declared.search.Mark.{Mark}
use Rattle.graph_cycle.specs.declared.search.Mark.TheVariants.{Fresh, Open, Closed}
use Rattle.graph_cycle.specs.Search.{fresh, closed, mark_at, NoLower, IsKnown, IsStack, AreJoined, ArePlaces, HasCome, AreTold, IsSearch, AreRising, IsLast, AreShut, Turns, Keeps, weight, left}
use Rattle.graph_cycle.proofs.Edges.{leads_on, below_last, closed_on}

-- a test that says the same of each item counts as many
same_count : (test : Mark → Bool) (xs ys : List Mark) → length xs ≡ length ys
    → ((k : ℕ) → test (get_or xs k Fresh) ≡ test (get_or ys k Fresh)) → count_by test xs ≡ count_by test ys
same_count test [] [] size same = refl
same_count test [] (y ∷ ys) size same = absurd (omega (arith, size))
same_count test (x ∷ xs) [] size same = absurd (omega (arith, size))
same_count test (x ∷ xs) (y ∷ ys) size same =
    sum_by-cons (λ (m : Mark). cond {A = ℕ} (test m) 1 0) x xs
    ∙ ap (λ (t : Bool). cond {A = ℕ} t 1 0 + count_by test xs) (same 0)
    ∙ ap (λ (n : ℕ). cond {A = ℕ} (test y) 1 0 + n) (same_count test xs ys (omega (arith, size)) (λ (k : ℕ). same (suc k)))
    ∙ sym (sum_by-cons (λ (m : Mark). cond {A = ℕ} (test m) 1 0) y ys)

-- the place of an open node, and what is told of a closed one
abbrev number : Mark → ℕ
number Fresh = 0
number (Open i) = i
number (Closed o) = 0

abbrev value : Mark → Bool
value Fresh = false
value (Open k) = false
value (Closed o) = o

module _ (rows : List (List ℕ)) (marks : List Mark) (next stack work bounds : List ℕ) (s : IsSearch rows marks next stack work bounds)
    (b : ℕ) (last : IsLast bounds b)
    (idle : (k : ℕ) → k < length work → get_or work k 0 < b)
    (on : Bool) (turning : on ≡ true → Turns rows stack b) (still : Turns rows stack b → on ≡ true)
    (after : List Mark) (shut : AreShut marks stack b (length stack) on after) where
  pub bound_low : b < length stack
  bound_low = subst (λ (v : ℕ). v < length stack) last.here (s.places.bounds_rise.low (length bounds - 1) (let h = last.some in omega (arith, h)))

  bound_most : (k : ℕ) → k < length bounds → get_or bounds k 0 ≤ b
  bound_most k below = below_last (length stack) bounds s.places.bounds_rise b k last.here below

  -- what the search comes to from the last group is in it or closed
  no_lower : (i j : ℕ) → NoLower bounds i j → b ≤ i → b ≤ j
  no_lower i j h up =
      let some : length bounds - 1 < length bounds = let l = last.some in omega (arith, l) in
      subst (λ (v : ℕ). v ≤ i → v ≤ j) last.here (h (length bounds - 1) some) up

  in_group : (i j : ℕ) → b ≤ j → NoLower bounds i j
  in_group i j up = λ (k : ℕ) (below : k < length bounds) (low : get_or bounds k 0 ≤ i). let h = bound_most k below in omega (arith, h, up)

  -- ## The marks

  abbrev Shut : ℕ → Mark → Mark → Type 0
  Shut n old new = (new ≡ old) × ((k : ℕ) → old ≡ Open k → k < b)
      ⊎ ((k : ℕ) × (b ≤ k) × (k < length stack) × (old ≡ Open k) × (get_or stack k 0 ≡ n) × (new ≡ Closed on))

  -- a node of the last group is closed, and any other keeps its mark
  each : (n : ℕ) → Shut n (mark_at marks n) (mark_at after n)
  each n = go (mark_at marks n) refl
    where
      kept : ((k : ℕ) → mark_at marks n ≡ Open k → k < b) → Shut n (mark_at marks n) (mark_at after n)
      kept low = inl (shut.same n out, low)
        where
          out : (k : ℕ) → b ≤ k → k < length stack → get_or stack k 0 ≡ n → ⊥
          out k up below is =
              let l = low k (sym (ap (mark_at marks) is) ∙ s.stands.opened k below) in omega (arith, l, up)

      go : (m : Mark) → mark_at marks n ≡ m → Shut n (mark_at marks n) (mark_at after n)
      go Fresh is = kept (λ (k : ℕ) (e : mark_at marks n ≡ Open k). let bad : Fresh ≡ Open k = sym is ∙ e in cc)
      go (Closed o) is = kept (λ (k : ℕ) (e : mark_at marks n ≡ Open k). let bad : Closed o ≡ Open k = sym is ∙ e in cc)
      go (Open k) is = place (cases_lt k b)
        where
          place : (k < b) ⊎ (b ≤ k) → Shut n (mark_at marks n) (mark_at after n)
          place (inl low) = kept (λ (j : ℕ) (e : mark_at marks n ≡ Open j). let same : Open k ≡ Open j = sym is ∙ e in subst (λ (i : ℕ). i < b) (place_same k j same) low)
            where
              place_same : (i j : ℕ) → Open i ≡ Open j → i ≡ j
              place_same i j e = ap number e
          place (inr up) =
              let at = s.stands.placed n k is in
              inr (k, up, at.0, is, at.1, sym (ap (mark_at after) at.1) ∙ shut.shut k up at.0)

  -- what the old mark was, by the new one
  was_fresh : (n : ℕ) → mark_at after n ≡ Fresh → mark_at marks n ≡ Fresh
  was_fresh n is = go (each n)
    where
      go : Shut n (mark_at marks n) (mark_at after n) → mark_at marks n ≡ Fresh
      go (inl same) = sym same.0 ∙ is
      go (inr it) = let bad : Fresh ≡ Closed on = sym is ∙ it.5 in cc

  was_open : (n k : ℕ) → mark_at after n ≡ Open k → (mark_at marks n ≡ Open k) × (k < b)
  was_open n k is = go (each n)
    where
      go : Shut n (mark_at marks n) (mark_at after n) → (mark_at marks n ≡ Open k) × (k < b)
      go (inl same) = let old : mark_at marks n ≡ Open k = sym same.0 ∙ is in (old, same.1 k old)
      go (inr it) = let bad : Open k ≡ Closed on = sym is ∙ it.5 in cc

  stays_closed : (n : ℕ) → closed (mark_at marks n) ≡ true → closed (mark_at after n) ≡ true
  stays_closed n is = go (each n)
    where
      go : Shut n (mark_at marks n) (mark_at after n) → closed (mark_at after n) ≡ true
      go (inl same) = ap closed same.0 ∙ is
      go (inr it) = ap closed it.5

  same_fresh : (n : ℕ) → fresh (mark_at after n) ≡ fresh (mark_at marks n)
  same_fresh n = go (each n)
    where
      go : Shut n (mark_at marks n) (mark_at after n) → fresh (mark_at after n) ≡ fresh (mark_at marks n)
      go (inl same) = ap fresh same.0
      go (inr it) = ap fresh it.5 ∙ sym (ap fresh it.3)

  -- ## What is left of the lists

  abbrev rest : List ℕ
  rest = take b stack

  rest_size : length rest ≡ b
  rest_size = length-take-le b stack (let l = bound_low in omega (arith, l))

  rest_at : (k : ℕ) → k < b → get_or rest k 0 ≡ get_or stack k 0
  rest_at k below = get_or-take b stack k 0 below

  rest_low : (k : ℕ) → k < length rest → k < b
  rest_low k below = let e = rest_size in omega (arith, e, below)

  rest_in : (k : ℕ) → k < length rest → k < length stack
  rest_in k below = let l = bound_low in let h = rest_low k below in omega (arith, l, h)

  abbrev fewer : List ℕ
  fewer = take (length bounds - 1) bounds

  fewer_size : length fewer ≡ length bounds - 1
  fewer_size = length-take-le (length bounds - 1) bounds (omega arith)

  fewer_at : (k : ℕ) → k < length fewer → get_or fewer k 0 ≡ get_or bounds k 0
  fewer_at k below = get_or-take (length bounds - 1) bounds k 0 (let e = fewer_size in omega (arith, e, below))

  fewer_in : (k : ℕ) → k < length fewer → k < length bounds
  fewer_in k below = let e = fewer_size in omega (arith, e, below)

  fewer_low : (k : ℕ) → k < length fewer → get_or fewer k 0 < b
  fewer_low k below =
      let less : k < length bounds - 1 = let e = fewer_size in omega (arith, e, below) in
      let l = s.places.bounds_rise.rises k (length bounds - 1) less (let h = last.some in omega (arith, h)) in
      subst (λ (v : ℕ). v < b) (sym (fewer_at k below)) (subst (λ (v : ℕ). get_or bounds k 0 < v) last.here l)

  fewer_no : (i j : ℕ) → NoLower bounds i j → NoLower fewer i j
  fewer_no i j h = λ (k : ℕ) (below : k < length fewer).
      subst (λ (v : ℕ). v ≤ i → v ≤ j) (sym (fewer_at k below)) (h k (fewer_in k below))

  more_no : (i j : ℕ) → i < b → NoLower fewer i j → NoLower bounds i j
  more_no i j low h k below at = go (cases_lt k (length bounds - 1))
    where
      go : (k < length bounds - 1) ⊎ (length bounds - 1 ≤ k) → get_or bounds k 0 ≤ j
      go (inl before) =
          let here : k < length fewer = let e = fewer_size in omega (arith, e, before) in
          subst (λ (v : ℕ). v ≤ i → v ≤ j) (fewer_at k here) (h k here) at
      go (inr past) =
          let same : k ≡ length bounds - 1 = omega (arith, below, past) in
          let is : get_or bounds k 0 ≡ b = ap (λ (m : ℕ). get_or bounds m 0) same ∙ last.here in
          absurd (omega (arith, is, at, low))

  -- ## The search afterwards

  stands : IsStack rows after rest
  stands = record {
    count = shut.count ∙ s.stands.count;
    inside = λ (k : ℕ) (below : k < length rest).
        subst (λ (v : ℕ). v < length rows) (sym (rest_at k (rest_low k below))) (s.stands.inside k (rest_in k below));
    opened = opened;
    placed = λ (n k : ℕ) (is : mark_at after n ≡ Open k).
        let old = was_open n k is in
        (let e = rest_size in let l = old.1 in omega (arith, e, l), rest_at k old.1 ∙ (s.stands.placed n k old.0).1);
  }
    where
      opened : (k : ℕ) → k < length rest → mark_at after (get_or rest k 0) ≡ Open k
      opened k below =
          subst (λ (v : ℕ). mark_at after v ≡ Open k) (sym (rest_at k (rest_low k below))) (go (each (get_or stack k 0)))
        where
          is : mark_at marks (get_or stack k 0) ≡ Open k
          is = s.stands.opened k (rest_in k below)

          go : Shut (get_or stack k 0) (mark_at marks (get_or stack k 0)) (mark_at after (get_or stack k 0)) → mark_at after (get_or stack k 0) ≡ Open k
          go (inl same) = same.0 ∙ is
          go (inr it) =
              let e : k ≡ it.0 = ap number (sym is ∙ it.3) in
              let up = it.1 in let low = rest_low k below in absurd (omega (arith, e, up, low))

  joined : AreJoined rows rest fewer
  joined = record {
    forth = λ (i j : ℕ) (less : i < j) (below : j < length rest).
        let high : j < b = rest_low j below in
        let low : i < b = omega (arith, less, high) in
        subst (λ (v : ℕ). Leads rows v (get_or rest j 0)) (sym (rest_at i low))
        (subst (λ (v : ℕ). Leads rows (get_or stack i 0) v) (sym (rest_at j high)) (s.joined.forth i j less (rest_in j below)));
    back = λ (i j : ℕ) (less : i < j) (below : j < length rest) (h : NoLower fewer j i).
        let high : j < b = rest_low j below in
        let low : i < b = omega (arith, less, high) in
        subst (λ (v : ℕ). Leads rows v (get_or rest i 0)) (sym (rest_at j high))
        (subst (λ (v : ℕ). Leads rows (get_or stack j 0) v) (sym (rest_at i low)) (s.joined.back i j less (rest_in j below) (more_no j i high h)));
  }

  places : ArePlaces rest work fewer
  places = record {
    work_rises = record {
      low = λ (k : ℕ) (below : k < length work). let e = rest_size in let l = idle k below in omega (arith, e, l);
      rises = s.places.work_rises.rises;
    };
    bounds_rise = record {
      low = λ (k : ℕ) (below : k < length fewer). let e = rest_size in let l = fewer_low k below in omega (arith, e, l);
      rises = λ (j k : ℕ) (less : j < k) (below : k < length fewer).
          let first : j < length fewer = omega (arith, less, below) in
          subst (λ (v : ℕ). v < get_or fewer k 0) (sym (fewer_at j first))
          (subst (λ (v : ℕ). get_or bounds j 0 < v) (sym (fewer_at k below)) (s.places.bounds_rise.rises j k less (fewer_in k below)));
    };
    some = some;
    zero = λ (first : 0 < length fewer). fewer_at 0 first ∙ s.places.zero (fewer_in 0 first);
  }
    where
      some : 0 < length rest → 0 < length fewer
      some filled = go (cases_lt 0 (length fewer))
        where
          go : (0 < length fewer) ⊎ (length fewer ≤ 0) → 0 < length fewer
          go (inl so) = so
          go (inr none) =
              let size = fewer_size in
              let one : length bounds - 1 ≡ 0 = omega (arith, size, none) in
              let is : get_or bounds 0 0 ≡ b = ap (λ (m : ℕ). get_or bounds m 0) (sym one) ∙ last.here in
              let zero = s.places.zero last.some in
              let e = rest_size in
              absurd (omega (arith, e, filled, zero, is))

  come : HasCome rows after next rest work fewer
  come = record {
    count = s.come.count;
    blank = λ (n : ℕ) (is : mark_at after n ≡ Fresh). s.come.blank n (was_fresh n is);
    within = s.come.within;
    known = λ (i k : ℕ) (below : i < length rest).
        subst (λ (v : ℕ). k < get_or next v 0 → IsKnown fewer i (mark_at after (get_or (row rows v) k 0)))
        (sym (rest_at i (rest_low i below))) (known i k below);
    done = λ (i : ℕ) (below : i < length rest) (no_work : Contains work i → ⊥).
        subst (λ (v : ℕ). get_or next v 0 ≡ length (row rows v)) (sym (rest_at i (rest_low i below))) (s.come.done i (rest_in i below) no_work);
  }
    where
      keep : (i n : ℕ) → IsKnown bounds i (mark_at marks n) → IsKnown fewer i (mark_at after n)
      keep i n h = go (each n)
        where
          same_mark : (m : Mark) → IsKnown bounds i m → IsKnown fewer i m
          same_mark Fresh k = k
          same_mark (Open j) k = fewer_no i j k
          same_mark (Closed o) k = k

          go : Shut n (mark_at marks n) (mark_at after n) → IsKnown fewer i (mark_at after n)
          go (inl same) = subst (λ (m : Mark). IsKnown fewer i m) (sym same.0) (same_mark (mark_at marks n) h)
          go (inr it) = subst (λ (m : Mark). IsKnown fewer i m) (sym it.5) tt

      known : (i k : ℕ) → i < length rest → k < get_or next (get_or stack i 0) 0
          → IsKnown fewer i (mark_at after (get_or (row rows (get_or stack i 0)) k 0))
      known i k below less =
          keep i (get_or (row rows (get_or stack i 0)) k 0) (s.come.known i k (rest_in i below) less)

  -- ## What is told of the group

  -- all on which a node of the group depends is in the group or closed
  need_known : (k d : ℕ) → b ≤ k → k < length stack → Contains (row rows (get_or stack k 0)) d → IsKnown bounds k (mark_at marks d)
  need_known k d up below h =
      let at = place_in (row rows (get_or stack k 0)) d h in
      let end = s.come.done k below out in
      subst (λ (v : ℕ). IsKnown bounds k (mark_at marks v)) at.2
      (s.come.known k at.0 below (let l = at.1 in omega (arith, end, l)))
    where
      out : Contains work k → ⊥
      out w =
          let at = place_in work k w in
          let l = idle at.0 at.1 in
          let is = at.2 in omega (arith, l, is, up)

  need_closed : (k d : ℕ) → b ≤ k → k < length stack → Contains (row rows (get_or stack k 0)) d → closed (mark_at after d) ≡ true
  need_closed k d up below h = go (each d) (mark_at marks d) refl (need_known k d up below h)
    where
      go : Shut d (mark_at marks d) (mark_at after d) → (m : Mark) → mark_at marks d ≡ m → IsKnown bounds k (mark_at marks d) → closed (mark_at after d) ≡ true
      go (inr it) m is it_known = ap closed it.5
      go (inl same) Fresh is it_known = absurd (subst (λ (m : Mark). IsKnown bounds k m) is it_known)
      go (inl same) (Open j) is it_known =
          let high : b ≤ j = no_lower k j (subst (λ (m : Mark). IsKnown bounds k m) is it_known) up in
          let low = same.1 j is in absurd (omega (arith, high, low))
      go (inl same) (Closed o) is it_known = ap closed (same.0 ∙ is)

  -- where the group is more than one node, each leads to itself; else the one does where it depends on itself
  goes_round : on ≡ true → (k : ℕ) → b ≤ k → k < length stack → Leads rows (get_or stack k 0) (get_or stack k 0)
  goes_round yes-on k up below = go (cases_lt (b + 1) (length stack)) (turning yes-on)
    where
      many : b + 1 < length stack → (b < k) ⊎ (k ≤ b) → Leads rows (get_or stack k 0) (get_or stack k 0)
      many more (inl past) =
          leads_on rows (get_or stack k 0) (get_or stack b 0) (get_or stack k 0)
          (s.joined.back b k past below (in_group k b (omega arith)))
          (s.joined.forth b k past below)
      many more (inr first) =
          let same : b ≡ k = omega (arith, up, first) in
          subst (λ (i : ℕ). Leads rows (get_or stack i 0) (get_or stack i 0)) same
          (leads_on rows (get_or stack b 0) (get_or stack (b + 1) 0) (get_or stack b 0)
          (s.joined.forth b (b + 1) (omega arith) more)
          (s.joined.back b (b + 1) (omega arith) more (in_group (b + 1) b (omega arith))))

      go : (b + 1 < length stack) ⊎ (length stack ≤ b + 1) → Turns rows stack b → Leads rows (get_or stack k 0) (get_or stack k 0)
      go (inl more) t = many more (cases_lt b k)
      go (inr one) (inl more) = absurd (omega (arith, one, more))
      go (inr one) (inr itself) =
          let same : b ≡ k = omega (arith, up, below, one) in
          subst (λ (i : ℕ). Leads rows (get_or stack i 0) (get_or stack i 0)) same (step (get_or stack b 0) (get_or stack b 0) itself)

  comes_never : on ≡ false → (k : ℕ) → b ≤ k → k < length stack → Leads rows (get_or stack k 0) (get_or stack k 0) → ⊥
  comes_never off k up below way = go (get_or stack k 0) refl way
    where
      not_turning : Turns rows stack b → ⊥
      not_turning t = let so : on ≡ true = still t in cc

      alone : k ≡ b
      alone = one (cases_lt (b + 1) (length stack))
        where
          one : (b + 1 < length stack) ⊎ (length stack ≤ b + 1) → k ≡ b
          one (inl more) = absurd (not_turning (inl more))
          one (inr few) = omega (arith, up, below, few)

      itself : Contains (row rows (get_or stack k 0)) (get_or stack k 0) → ⊥
      itself h = not_turning (inr (subst (λ (i : ℕ). Contains (row rows (get_or stack i 0)) (get_or stack i 0)) alone h))

      -- the next node is closed, so nothing leads from it to an open one
      next_node : (d : ℕ) → Contains (row rows (get_or stack k 0)) d → Leads rows d (get_or stack k 0) → ⊥
      next_node d h rest_of = mark (mark_at marks d) refl (need_known k d up below h)
        where
          mark : (m : Mark) → mark_at marks d ≡ m → IsKnown bounds k (mark_at marks d) → ⊥
          mark Fresh is it_known = subst (λ (m : Mark). IsKnown bounds k m) is it_known
          mark (Open j) is it_known =
              let high : b ≤ j = no_lower k j (subst (λ (m : Mark). IsKnown bounds k m) is it_known) up in
              let at = s.stands.placed d j is in
              let low = at.0 in
              let same : j ≡ k = only high low (cases_lt (b + 1) (length stack)) in
              itself (subst (λ (v : ℕ). Contains (row rows (get_or stack k 0)) v) (sym at.1 ∙ ap (λ (i : ℕ). get_or stack i 0) same) h)
            where
              only : b ≤ j → j < length stack → (b + 1 < length stack) ⊎ (length stack ≤ b + 1) → j ≡ k
              only high low (inl more) = absurd (not_turning (inl more))
              only high low (inr few) = let e = alone in omega (arith, e, high, low, few)
          mark (Closed o) is it_known =
              let end : closed (mark_at marks (get_or stack k 0)) ≡ true = closed_on rows marks s.told.needs d (get_or stack k 0) (ap closed is) rest_of in
              let bad : closed (Open k) ≡ true = sym (ap closed (s.stands.opened k below)) ∙ end in cc

      go : (n : ℕ) → n ≡ get_or stack k 0 → Leads rows n (get_or stack k 0) → ⊥
      go n same (step a1 b1 h) = itself (subst (λ (v : ℕ). Contains (row rows v) (get_or stack k 0)) same h)
      go n same (through a1 m b1 h rest_of) = next_node m (subst (λ (v : ℕ). Contains (row rows v) m) same h) rest_of

  told : AreTold rows after
  told = record {
    yes = λ (n : ℕ) (is : mark_at after n ≡ Closed true). says n true is (each n);
    no = λ (n : ℕ) (is : mark_at after n ≡ Closed false). denies n is (each n);
    needs = λ (n d : ℕ) (is : closed (mark_at after n) ≡ true) (h : Contains (row rows n) d). needs n d is h (each n);
  }
    where
      says : (n : ℕ) (o : Bool) → mark_at after n ≡ Closed true → Shut n (mark_at marks n) (mark_at after n) → Leads rows n n
      says n o is (inl same) = s.told.yes n (sym same.0 ∙ is)
      says n o is (inr it) =
          subst (λ (v : ℕ). Leads rows v v) it.4 (goes_round (ap value (sym it.5 ∙ is)) it.0 it.1 it.2)

      denies : (n : ℕ) → mark_at after n ≡ Closed false → Shut n (mark_at marks n) (mark_at after n) → Leads rows n n → ⊥
      denies n is (inl same) = s.told.no n (sym same.0 ∙ is)
      denies n is (inr it) =
          subst (λ (v : ℕ). Leads rows v v → ⊥) it.4 (comes_never (ap value (sym it.5 ∙ is)) it.0 it.1 it.2)

      needs : (n d : ℕ) → closed (mark_at after n) ≡ true → Contains (row rows n) d → Shut n (mark_at marks n) (mark_at after n) → closed (mark_at after d) ≡ true
      needs n d is h (inl same) = stays_closed d (s.told.needs n d (sym (ap closed same.0) ∙ is) h)
      needs n d is h (inr it) = need_closed it.0 d it.1 it.2 (subst (λ (v : ℕ). Contains (row rows v) d) (sym it.4) h)

  pub shuts : IsSearch rows after next (take b stack) work (take (length bounds - 1) bounds)
  shuts = record {
    small = s.small;
    range = s.range;
    stands = stands;
    joined = joined;
    places = places;
    come = come;
    told = told;
  }

  pub shuts_keep : Keeps marks after
  shuts_keep n met = same_fresh n ∙ met

  pub shuts_less : weight rows after next work (take (length bounds - 1) bounds) < weight rows marks next work bounds
  shuts_less =
      let e : count_by fresh after ≡ count_by fresh marks = same_count fresh after marks shut.count same_fresh in
      let f = fewer_size in
      let h = last.some in
      omega (arith, e, f, h)
