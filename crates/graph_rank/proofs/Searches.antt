-- The steps of the search.
use Rattle.std.proofs.Common.{◌≡◌, ◌≢◌, ◌<◌, ◌≤◌, ◌+◌, ◌-◌, ℕ, true, false, List, [], ◌∷◌, ◌++◌, length, get_or, set, refl, ap, sym, ◌∙◌, subst, arith, ◌⊎◌, inl, inr, length-append}
use Rattle.std.specs.List.{All, Contains}
use Rattle.std.proofs.lemmas.List.Elements.{Contains-get_or}
use Rattle.std.proofs.lemmas.Bool.{cases_eq, cases_lt}
use Rattle.std.proofs.lemmas.List.{length-set, get_or-set_same, get_or-set_other, get_or_append_left, get_or_push}
use Rattle.graph_rank.specs.declared.search.Mark.{Mark}
use Rattle.graph_rank.specs.declared.search.Mark.TheVariants.{Fresh, Met}
use Rattle.graph_rank.specs.Rows.{row}
use Rattle.graph_rank.specs.Ranks.{HasRank}
use Rattle.graph_rank.specs.Search.{fresh, ranked, rank_of, mark_at, rank_at, RankedBelow, IsStuck, IsSearch, IsStep, IsLast, Keeps}
use Rattle.graph_rank.proofs.Marks.{stands_in, place_in, mark_same, mark_other, ranked_as_many, fresh_one_less}

module _ (rows : List (List ℕ)) (marks : List Mark) (next trail : List ℕ) (s : IsSearch rows marks next trail) where
  -- the last node of the trail, its range and its mark
  pub last_in_range : (n : ℕ) → IsLast trail n → n < length rows
  last_in_range n l = subst (λ (i : ℕ). i < length rows) l.here (s.trail_bounds (length trail - 1) (let h = l.some in omega arith))

  pub last_met : (n : ℕ) → IsLast trail n → mark_at marks n ≡ Met
  last_met n l = subst (λ (i : ℕ). mark_at marks i ≡ Met) l.here (s.on_trail (length trail - 1) (let h = l.some in omega arith))

  -- a node further back on the trail is another one
  pub not_last : (n : ℕ) → IsLast trail n → (k : ℕ) → k < length trail - 1 → get_or trail k 0 ≢ n
  not_last n l k below = λ (same : get_or trail k 0 ≡ n).
      s.once k (length trail - 1) below (let h = l.some in omega arith) (same ∙ sym l.here)

  -- the needs of a node are marked
  pub needs_in_range : (place : ℕ) → place < length rows → All (λ d. d < length marks) (row rows place)
  needs_in_range place here k d below =
      let e = s.marks_count in
      let h = s.bounds place (get_or (row rows place) k d) here (Contains-get_or (row rows place) k d below) in omega arith

  -- the search comes further in the row of a node
  module _ (place end : ℕ) (here : place < length rows) (within : end ≤ length (row rows place)) (passed : RankedBelow marks (row rows place) end) where
    further_within : (n : ℕ) → n < length rows → get_or (set next place end) n 0 ≤ length (row rows n)
    further_within n below = go (cases_eq n place)
      where
        go : (n ≡ place) ⊎ (n ≡ place → ⊥) → get_or (set next place end) n 0 ≤ length (row rows n)
        go (inl same) = rw (same, get_or-set_same next place end 0 (let e = s.next_count in omega arith)) within
        go (inr other) = rw (get_or-set_other next place n end 0 other) (s.within n below)

    further_passed : (n : ℕ) → n < length rows → RankedBelow marks (row rows n) (get_or (set next place end) n 0)
    further_passed n below = go (cases_eq n place)
      where
        go : (n ≡ place) ⊎ (n ≡ place → ⊥) → RankedBelow marks (row rows n) (get_or (set next place end) n 0)
        go (inl same) = rw (same, get_or-set_same next place end 0 (let e = s.next_count in omega arith)) passed
        go (inr other) = rw (get_or-set_other next place n end 0 other) (s.passed n below)

    pub further : IsSearch rows marks (set next place end) trail
    further = record {
      small = s.small;
      bounds = s.bounds;
      marks_count = s.marks_count;
      trail_bounds = s.trail_bounds;
      on_trail = s.on_trail;
      once = s.once;
      path = s.path;
      held = s.held;
      has_rank = s.has_rank;
      low = s.low;
      next_count = length-set next place end ∙ s.next_count;
      within = further_within;
      passed = further_passed;
    }

  -- a node that was fresh is put at the end of the trail
  module _ (need : ℕ) (here : need < length rows) (new : mark_at marks need ≡ Fresh)
      (link : 0 < length trail → Contains (row rows (get_or trail (length trail - 1) 0)) need) where
    room : need < length marks
    room = let e = s.marks_count in omega arith

    marks-2 : List Mark
    marks-2 = set marks need Met

    kept_ranked : (n : ℕ) → ranked (mark_at marks n) ≡ true → mark_at (set marks need Met) n ≡ mark_at marks n
    kept_ranked n is = mark_other marks need n Met (λ (same : n ≡ need). let bad : mark_at marks n ≡ Fresh = rw same new in cc)

    kept_met : (n : ℕ) → mark_at marks n ≡ Met → mark_at (set marks need Met) n ≡ Met
    kept_met n is = mark_other marks need n Met (λ (same : n ≡ need). let bad : mark_at marks n ≡ Fresh = rw same new in cc) ∙ is

    -- what is ranked then was ranked before
    was_ranked : (n : ℕ) → ranked (mark_at (set marks need Met) n) ≡ true → mark_at (set marks need Met) n ≡ mark_at marks n
    was_ranked n is = go (cases_eq n need)
      where
        go : (n ≡ need) ⊎ (n ≡ need → ⊥) → mark_at (set marks need Met) n ≡ mark_at marks n
        go (inl same) = let met : mark_at (set marks need Met) n ≡ Met = rw same (mark_same marks need Met room) in cc
        go (inr other) = mark_other marks need n Met other

    back : (k : ℕ) → k < length trail → get_or (trail ++ need ∷ []) k 0 ≡ get_or trail k 0
    back k below = get_or_append_left trail (need ∷ []) 0 k below

    top : (k : ℕ) → length trail ≡ k → get_or (trail ++ need ∷ []) k 0 ≡ need
    top k same = get_or_push trail need 0 k same

    longer : length (trail ++ need ∷ []) ≡ length trail + 1
    longer = length-append trail (need ∷ [])

    old_is_met : (k : ℕ) → k < length trail → get_or trail k 0 ≢ need
    old_is_met k below = λ (same : get_or trail k 0 ≡ need).
        let met = s.on_trail k below in let bad : mark_at marks (get_or trail k 0) ≡ Fresh = rw same new in cc

    entered_trail_bounds : (k : ℕ) → k < length (trail ++ need ∷ []) → get_or (trail ++ need ∷ []) k 0 < length rows
    entered_trail_bounds k below = go (cases_lt k (length trail))
      where
        go : (k < length trail) ⊎ (length trail ≤ k) → get_or (trail ++ need ∷ []) k 0 < length rows
        go (inl before) = rw (back k before) (s.trail_bounds k before)
        go (inr past) = let last : length trail ≡ k = omega (arith, longer) in rw (top k last) here

    entered_on_trail : (k : ℕ) → k < length (trail ++ need ∷ []) → mark_at (set marks need Met) (get_or (trail ++ need ∷ []) k 0) ≡ Met
    entered_on_trail k below = go (cases_lt k (length trail))
      where
        go : (k < length trail) ⊎ (length trail ≤ k) → mark_at (set marks need Met) (get_or (trail ++ need ∷ []) k 0) ≡ Met
        go (inl before) = rw (back k before) (kept_met _ (s.on_trail k before))
        go (inr past) = let last : length trail ≡ k = omega (arith, longer) in rw (top k last) (mark_same marks need Met room)

    entered_once : (j k : ℕ) → j < k → k < length (trail ++ need ∷ []) → get_or (trail ++ need ∷ []) j 0 ≢ get_or (trail ++ need ∷ []) k 0
    entered_once j k order below = go (cases_lt k (length trail))
      where
        go : (k < length trail) ⊎ (length trail ≤ k) → get_or (trail ++ need ∷ []) j 0 ≢ get_or (trail ++ need ∷ []) k 0
        go (inl before) =
            let first : j < length trail = omega arith in
            rw (back k before, back j first) (s.once j k order before)
        go (inr past) =
            let last : length trail ≡ k = omega (arith, longer) in
            let first : j < length trail = omega arith in
            rw (top k last, back j first) (old_is_met j first)

    entered_path : (k : ℕ) → k + 1 < length (trail ++ need ∷ []) → Contains (row rows (get_or (trail ++ need ∷ []) k 0)) (get_or (trail ++ need ∷ []) (k + 1) 0)
    entered_path k below = go (cases_lt (k + 1) (length trail))
      where
        go : (k + 1 < length trail) ⊎ (length trail ≤ k + 1) → Contains (row rows (get_or (trail ++ need ∷ []) k 0)) (get_or (trail ++ need ∷ []) (k + 1) 0)
        go (inl before) =
            let first : k < length trail = omega arith in
            rw (back (k + 1) before, back k first) (s.path k before)
        go (inr past) =
            let last : length trail ≡ k + 1 = omega (arith, longer) in
            let first : k < length trail = omega arith in
            let same : length trail - 1 ≡ k = omega arith in
            rw (top (k + 1) last, back k first) (subst (λ (i : ℕ). Contains (row rows (get_or trail i 0)) need) same (link (omega arith)))

    in_new : (n : ℕ) → Contains trail n → Contains (trail ++ need ∷ []) n
    in_new n h =
        let at = place_in trail n h in
        let is : get_or (trail ++ need ∷ []) at.0 0 ≡ n = back at.0 at.1 ∙ at.2 in
        subst (λ (i : ℕ). Contains (trail ++ need ∷ []) i) is (stands_in (trail ++ need ∷ []) at.0 (omega (arith, longer, at.1)))

    entered_stuck : (n : ℕ) → IsStuck rows marks trail n → IsStuck rows (set marks need Met) (trail ++ need ∷ []) n
    entered_stuck n h = record {
      need = h.need;
      needed = h.needed;
      met = kept_met h.need h.met;
      left = λ (on : Contains (trail ++ need ∷ []) h.need).
          let at = place_in (trail ++ need ∷ []) h.need on in
          out at.0 at.1 at.2 (cases_lt at.0 (length trail));
    }
      where
        out : (k : ℕ) → k < length (trail ++ need ∷ []) → get_or (trail ++ need ∷ []) k 0 ≡ h.need → (k < length trail) ⊎ (length trail ≤ k) → ⊥
        out k below is (inl before) =
            h.left (subst (λ (i : ℕ). Contains trail i) (sym (back k before) ∙ is) (stands_in trail k before))
        out k below is (inr past) =
            let last : length trail ≡ k = omega (arith, longer) in
            let same : need ≡ h.need = sym (top k last) ∙ is in
            let met = h.met in
            let bad : mark_at marks h.need ≡ Fresh = subst (λ (i : ℕ). mark_at marks i ≡ Fresh) same new in cc

    entered_held : (n : ℕ) → n < length rows → mark_at (set marks need Met) n ≡ Met → Contains (trail ++ need ∷ []) n ⊎ IsStuck rows (set marks need Met) (trail ++ need ∷ []) n
    entered_held n below met = go (cases_eq n need)
      where
        old : Contains trail n ⊎ IsStuck rows marks trail n → Contains (trail ++ need ∷ []) n ⊎ IsStuck rows (set marks need Met) (trail ++ need ∷ []) n
        old (inl on) = inl (in_new n on)
        old (inr stuck) = inr (entered_stuck n stuck)

        go : (n ≡ need) ⊎ (n ≡ need → ⊥) → Contains (trail ++ need ∷ []) n ⊎ IsStuck rows (set marks need Met) (trail ++ need ∷ []) n
        go (inl same) = inl (subst (λ (i : ℕ). Contains (trail ++ need ∷ []) i) (top (length trail) refl ∙ sym same) (stands_in (trail ++ need ∷ []) (length trail) (omega (arith, longer))))
        go (inr other) = old (s.held n below (sym (mark_other marks need n Met other) ∙ met))

    pub entered_search : IsSearch rows (set marks need Met) next (trail ++ need ∷ [])
    entered_search = record {
      small = s.small;
      bounds = s.bounds;
      next_count = s.next_count;
      within = s.within;
      marks_count = length-set marks need Met ∙ s.marks_count;
      passed = λ n below k low. let is = s.passed n below k low in rw (kept_ranked _ is) is;
      trail_bounds = entered_trail_bounds;
      on_trail = entered_on_trail;
      once = entered_once;
      path = entered_path;
      held = entered_held;
      has_rank = λ n below is. let same = was_ranked n is in subst (λ (m : Mark). HasRank rows n (rank_of m)) (sym same) (s.has_rank n below (subst (λ (m : Mark). ranked m ≡ true) same is));
      low = λ n below is. let same = was_ranked n is in
          let old = s.low n below (subst (λ (m : Mark). ranked m ≡ true) same is) in
          let rank : rank_at (set marks need Met) n ≡ rank_at marks n = ap rank_of same in
          let count = ranked_as_many marks need room new in omega arith;
    }

    pub entered_keeps : Keeps marks (set marks need Met)
    entered_keeps n is = go (cases_eq n need)
      where
        go : (n ≡ need) ⊎ (n ≡ need → ⊥) → fresh (mark_at (set marks need Met) n) ≡ false
        go (inl same) = let met : mark_at (set marks need Met) n ≡ Met = rw same (mark_same marks need Met room) in ap fresh met
        go (inr other) = ap fresh (mark_other marks need n Met other) ∙ is

    pub entered : IsStep rows marks trail (set marks need Met) next (trail ++ need ∷ [])
    entered = record {
      search = entered_search;
      keeps = entered_keeps;
      less = let count = fresh_one_less marks need room new in let size = longer in omega arith;
    }
