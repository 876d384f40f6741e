-- The search ranks the last node of the trail, or leaves the trail.
use Rattle.std.proofs.Common.{◌≡◌, ◌≢◌, ◌<◌, ◌≤◌, ◌+◌, ◌-◌, ℕ, Bool, true, false, List, [], ◌∷◌, ◌++◌, length, get_or, set, take, refl, ap, sym, ◌∙◌, subst, arith, ◌⊎◌, inl, inr, if◌then◌else◌}
use Rattle.std.specs.List.{All, Contains, count_by}
use Rattle.std.proofs.lemmas.List.Elements.{Contains-get_or}
use Rattle.std.proofs.lemmas.List.Sums.{count_by-le-length}
use Rattle.std.proofs.lemmas.Bool.{cases_eq, cases_lt}
use Rattle.std.proofs.lemmas.List.{length-set, length-take-le, get_or-take, get_or_default}
use Rattle.graph_rank.specs.declared.search.Mark.{Mark}
use Rattle.graph_rank.specs.declared.search.Mark.TheVariants.{Fresh, Met, Ranked}
use Rattle.graph_rank.specs.Rows.{row}
use Rattle.graph_rank.specs.Ranks.{HasRank, above}
use Rattle.graph_rank.specs.Ranks.HasRank.{ranked as has}
use Rattle.graph_rank.specs.Search.{fresh, ranked, rank_of, mark_at, rank_at, RankedBelow, IsStuck, IsSearch, IsStep, IsLast, Keeps}
use Rattle.graph_rank.proofs.Marks.{stands_in, place_in, mark_same, mark_other, above_low, ranked_one_more, fresh_as_many, is_fresh, is_met}
use Rattle.graph_rank.proofs.Searches.{entered, further, needs_in_range, last_in_range, last_met, not_last}

module _ (rows : List (List ℕ)) (marks : List Mark) (next trail : List ℕ) (s : IsSearch rows marks next trail)
    (place : ℕ) (l : IsLast trail place) where
  here : place < length rows
  here = last_in_range rows marks next trail s place l

  room : place < length marks
  room = let e = s.marks_count in let h = here in omega arith

  was_met : mark_at marks place ≡ Met
  was_met = last_met rows marks next trail s place l

  others : (k : ℕ) → k < length trail - 1 → get_or trail k 0 ≢ place
  others = not_last rows marks next trail s place l

  shorter : length (take (length trail - 1) trail) ≡ length trail - 1
  shorter = length-take-le (length trail - 1) trail (omega arith)

  back : (k : ℕ) → k < length trail - 1 → get_or (take (length trail - 1) trail) k 0 ≡ get_or trail k 0
  back k below = get_or-take (length trail - 1) trail k 0 below

  inside : (k : ℕ) → k < length (take (length trail - 1) trail) → k < length trail - 1
  inside k below = let e = shorter in omega arith

  -- the trail without its last node
  in_rest : (n : ℕ) → Contains trail n → n ≢ place → Contains (take (length trail - 1) trail) n
  in_rest n h other =
      let at = place_in trail n h in
      let before : at.0 < length trail - 1 = go at.0 at.1 at.2 (cases_eq at.0 (length trail - 1)) in
      let is : get_or (take (length trail - 1) trail) at.0 0 ≡ n = back at.0 before ∙ at.2 in
      subst (λ (i : ℕ). Contains (take (length trail - 1) trail) i) is (stands_in (take (length trail - 1) trail) at.0 (omega (arith, shorter)))
    where
      go : (k : ℕ) → k < length trail → get_or trail k 0 ≡ n → (k ≡ length trail - 1) ⊎ (k ≡ length trail - 1 → ⊥) → k < length trail - 1
      go k below is (inl last) = absurd (other (sym is ∙ subst (λ (i : ℕ). get_or trail i 0 ≡ place) (sym last) l.here))
      go k below is (inr before) = omega arith

  from_rest : (n : ℕ) → Contains (take (length trail - 1) trail) n → Contains trail n
  from_rest n h =
      let at = place_in (take (length trail - 1) trail) n h in
      let before = inside at.0 at.1 in
      subst (λ (i : ℕ). Contains trail i) (sym (back at.0 before) ∙ at.2) (stands_in trail at.0 (omega arith))

  on_the_trail : Contains trail place
  on_the_trail = subst (λ (i : ℕ). Contains trail i) l.here (stands_in trail (length trail - 1) (let h = l.some in omega arith))

  -- all on which it depends is ranked, so it is ranked
  module _ (all : RankedBelow marks (row rows place) (length (row rows place))) (r : ℕ) (is : r ≡ above (rank_at marks) (row rows place)) where
    kept_ranked : (n : ℕ) → ranked (mark_at marks n) ≡ true → mark_at (set marks place (Ranked r)) n ≡ mark_at marks n
    kept_ranked n so = mark_other marks place n (Ranked r) (λ (same : n ≡ place). let bad : mark_at marks n ≡ Met = rw same was_met in cc)

    need_ranked : (d : ℕ) → Contains (row rows place) d → ranked (mark_at marks d) ≡ true
    need_ranked d h = let at = place_in (row rows place) d h in subst (λ (i : ℕ). ranked (mark_at marks i) ≡ true) at.2 (all at.0 at.1)

    pub needs_low : All (λ d. rank_at marks d < 4294967295) (row rows place)
    needs_low k d below =
        let h : Contains (row rows place) (get_or (row rows place) k d) = Contains-get_or (row rows place) k d below in
        let low = s.low (get_or (row rows place) k d) (s.bounds place _ here h) (need_ranked _ h) in
        let most = count_by-le-length ranked marks in
        let e = s.marks_count in
        let f = s.small in
        omega arith

    its_rank : HasRank rows place r
    its_rank = has place r (rank_at marks) here (λ d h. s.has_rank d (s.bounds place d here h) (need_ranked d h)) is

    its_bound : r ≤ count_by ranked marks
    its_bound = rw is (above_low (rank_at marks) (row rows place) (count_by ranked marks) (λ d h. s.low d (s.bounds place d here h) (need_ranked d h)))

    -- another node has the mark that it had
    kept_other : (n : ℕ) → n ≢ place → mark_at (set marks place (Ranked r)) n ≡ mark_at marks n
    kept_other n other = mark_other marks place n (Ranked r) other

    is_other : (n : ℕ) → mark_at (set marks place (Ranked r)) n ≡ Met → n ≢ place
    is_other n met = λ (same : n ≡ place). let now : mark_at (set marks place (Ranked r)) n ≡ Ranked r = rw same (mark_same marks place (Ranked r) room) in cc

    finished_held : (n : ℕ) → n < length rows → mark_at (set marks place (Ranked r)) n ≡ Met
        → Contains (take (length trail - 1) trail) n ⊎ IsStuck rows (set marks place (Ranked r)) (take (length trail - 1) trail) n
    finished_held n below met = go (s.held n below (sym (kept_other n (is_other n met)) ∙ met))
      where
        go : Contains trail n ⊎ IsStuck rows marks trail n
            → Contains (take (length trail - 1) trail) n ⊎ IsStuck rows (set marks place (Ranked r)) (take (length trail - 1) trail) n
        go (inl on) = inl (in_rest n on (is_other n met))
        go (inr h) = inr (record {
          need = h.need;
          needed = h.needed;
          met = kept_other h.need (λ (same : h.need ≡ place). h.left (subst (λ (i : ℕ). Contains trail i) (sym same) on_the_trail)) ∙ h.met;
          left = λ (on : Contains (take (length trail - 1) trail) h.need). h.left (from_rest h.need on);
        })

    finished_rank : (n : ℕ) → n < length rows → ranked (mark_at (set marks place (Ranked r)) n) ≡ true
        → HasRank rows n (rank_at (set marks place (Ranked r)) n) × (rank_at (set marks place (Ranked r)) n < count_by ranked (set marks place (Ranked r)))
    finished_rank n below so = go (cases_eq n place)
      where
        go : (n ≡ place) ⊎ (n ≡ place → ⊥) → HasRank rows n (rank_at (set marks place (Ranked r)) n) × (rank_at (set marks place (Ranked r)) n < count_by ranked (set marks place (Ranked r)))
        go (inl same) =
            let mark : mark_at (set marks place (Ranked r)) n ≡ Ranked r = rw same (mark_same marks place (Ranked r) room) in
            let now : rank_at (set marks place (Ranked r)) n ≡ r = ap rank_of mark in
            let count = ranked_one_more marks place r room was_met in
            let bound = its_bound in
            (rw now (rw same its_rank), omega arith)
        go (inr other) =
            let same = kept_other n other in
            let was : ranked (mark_at marks n) ≡ true = sym (ap ranked same) ∙ so in
            let rank : rank_at (set marks place (Ranked r)) n ≡ rank_at marks n = ap rank_of same in
            let count = ranked_one_more marks place r room was_met in
            let low = s.low n below was in
            (rw rank (s.has_rank n below was), omega arith)

    pub finished_search : IsSearch rows (set marks place (Ranked r)) next (take (length trail - 1) trail)
    finished_search = record {
      small = s.small;
      bounds = s.bounds;
      next_count = s.next_count;
      within = s.within;
      marks_count = length-set marks place (Ranked r) ∙ s.marks_count;
      passed = λ n below k low. let so = s.passed n below k low in rw (kept_ranked _ so) so;
      trail_bounds = λ k below. let before = inside k below in rw (back k before) (s.trail_bounds k (omega arith));
      on_trail = λ k below. let before = inside k below in
          rw (back k before) (kept_other _ (others k before) ∙ s.on_trail k (omega arith));
      once = λ j k order below. let before = inside k below in
          let first : j < length trail - 1 = omega arith in
          rw (back k before, back j first) (s.once j k order (omega arith));
      path = λ k below. let before = inside (k + 1) below in
          let first : k < length trail - 1 = omega arith in
          rw (back (k + 1) before, back k first) (s.path k (omega arith));
      held = finished_held;
      has_rank = λ n below so. (finished_rank n below so).0;
      low = λ n below so. (finished_rank n below so).1;
    }

    pub finished_keeps : Keeps marks (set marks place (Ranked r))
    finished_keeps n so = go (cases_eq n place)
      where
        go : (n ≡ place) ⊎ (n ≡ place → ⊥) → fresh (mark_at (set marks place (Ranked r)) n) ≡ false
        go (inl same) = let mark : mark_at (set marks place (Ranked r)) n ≡ Ranked r = rw same (mark_same marks place (Ranked r) room) in ap fresh mark
        go (inr other) = ap fresh (kept_other n other) ∙ so

    pub finished : IsStep rows marks trail (set marks place (Ranked r)) next (take (length trail - 1) trail)
    finished = record {
      search = finished_search;
      keeps = finished_keeps;
      less = let count = fresh_as_many marks place r room was_met in let size = shorter in let h = l.some in omega arith;
    }

  -- the last node of the trail needs a node that was met before, so that no node of the trail has a rank
  module _ (need : ℕ) (needed : Contains (row rows place) need) (met : mark_at marks need ≡ Met) where
    nothing : (n : ℕ) → Contains {X = ℕ} [] n → ⊥
    nothing n h = let below = h.1 in omega arith

    stuck_at : (n k : ℕ) → k < length trail → get_or trail k 0 ≡ n → (k + 1 < length trail) ⊎ (length trail ≤ k + 1) → IsStuck rows marks [] n
    stuck_at n k below is (inl before) = record {
      need = get_or trail (k + 1) 0;
      needed = subst (λ (i : ℕ). Contains (row rows i) (get_or trail (k + 1) 0)) is (s.path k before);
      met = s.on_trail (k + 1) before;
      left = nothing (get_or trail (k + 1) 0);
    }
    stuck_at n k below is (inr past) =
        let last : length trail - 1 ≡ k = omega arith in
        let same : place ≡ n = sym l.here ∙ subst (λ (i : ℕ). get_or trail i 0 ≡ n) (sym last) is in
        record { need = need; needed = subst (λ (i : ℕ). Contains (row rows i) need) same needed; met = met; left = nothing need }

    cleared_held : (n : ℕ) → n < length rows → mark_at marks n ≡ Met → Contains {X = ℕ} [] n ⊎ IsStuck rows marks [] n
    cleared_held n below so = go (s.held n below so)
      where
        go : Contains trail n ⊎ IsStuck rows marks trail n → Contains {X = ℕ} [] n ⊎ IsStuck rows marks [] n
        go (inl on) = let at = place_in trail n on in inr (stuck_at n at.0 at.1 at.2 (cases_lt (at.0 + 1) (length trail)))
        go (inr h) = inr (record { need = h.need; needed = h.needed; met = h.met; left = nothing h.need })

    pub cleared : IsStep rows marks trail marks next []
    cleared = record {
      search = record {
        small = s.small;
        bounds = s.bounds;
        marks_count = s.marks_count;
        next_count = s.next_count;
        within = s.within;
        passed = s.passed;
        has_rank = s.has_rank;
        low = s.low;
        trail_bounds = λ k below. absurd (omega arith);
        on_trail = λ k below. absurd (omega arith);
        once = λ j k order below. absurd (omega arith);
        path = λ k below. absurd (omega arith);
        held = cleared_held;
      };
      keeps = λ n so. so;
      less = let h = l.some in omega arith;
    }

-- the search goes on to the first node of a row that has no rank
module _ (rows : List (List ℕ)) (marks : List Mark) (next trail : List ℕ) (s : IsSearch rows marks next trail)
    (place : ℕ) (l : IsLast trail place) (end : ℕ) (within : end < length (row rows place)) (passed : RankedBelow marks (row rows place) end)
    (unranked : ranked (mark_at marks (get_or (row rows place) end 0)) ≡ false) where
  onward : IsSearch rows marks (set next place end) trail
  onward = further rows marks next trail s place end (last_in_range rows marks next trail s place l) (omega arith) passed

  to_need : Contains (row rows place) (get_or (row rows place) end 0)
  to_need = stands_in (row rows place) end within

  pub need_in_range : get_or (row rows place) end 0 < length rows
  need_in_range = s.bounds place _ (last_in_range rows marks next trail s place l) to_need

  pub followed : (b : Bool) → fresh (mark_at marks (get_or (row rows place) end 0)) ≡ b
      → IsStep rows marks trail
      (if b then set marks (get_or (row rows place) end 0) Met else marks)
      (set next place end)
      (if b then trail ++ get_or (row rows place) end 0 ∷ [] else [])
  followed true new =
      entered rows marks (set next place end) trail onward (get_or (row rows place) end 0) need_in_range (is_fresh _ new)
      (λ (some : 0 < length trail). subst (λ (i : ℕ). Contains (row rows i) (get_or (row rows place) end 0)) (sym l.here) to_need)
  followed false old =
      cleared rows marks (set next place end) trail onward place l (get_or (row rows place) end 0) to_need (is_met _ old unranked)

-- the same by what the code names
pub follows : (rows : List (List ℕ)) (marks : List Mark) (next trail : List ℕ) → IsSearch rows marks next trail
    → (place : ℕ) → IsLast trail place → (needs : List ℕ) → needs ≡ row rows place
    → (end : ℕ) → end < length needs → RankedBelow marks needs end → ranked (mark_at marks (get_or needs end 0)) ≡ false
    → (marks-2 : List Mark) (next-2 trail-2 : List ℕ)
    → marks-2 ≡ (if fresh (mark_at marks (get_or needs end 0)) then set marks (get_or needs end 0) Met else marks)
    → next-2 ≡ set next place end
    → trail-2 ≡ (if fresh (mark_at marks (get_or needs end 0)) then trail ++ get_or needs end 0 ∷ [] else [])
    → IsStep rows marks trail marks-2 next-2 trail-2
follows rows marks next trail s place l needs is end within passed unranked marks-2 next-2 trail-2 e f g =
    rw (e, f, g, is) (followed rows marks next trail s place l end (rw is at within) (rw is at passed) (rw is at unranked) (fresh (mark_at marks (get_or (row rows place) end 0))) refl)

pub needs_in : (rows : List (List ℕ)) (marks : List Mark) (next trail : List ℕ) → IsSearch rows marks next trail
    → (place : ℕ) → IsLast trail place → (needs : List ℕ) → needs ≡ row rows place → (seen : List Mark) → seen ≡ marks
    → All (λ d. d < length seen) needs
needs_in rows marks next trail s place l needs is seen same =
    rw (is, same) (needs_in_range rows marks next trail s place (last_in_range rows marks next trail s place l))

pub lows_in : (rows : List (List ℕ)) (marks : List Mark) (next trail : List ℕ) → IsSearch rows marks next trail
    → (place : ℕ) → IsLast trail place → (needs : List ℕ) → needs ≡ row rows place → (first seen : List Mark) → first ≡ marks → seen ≡ marks
    → RankedBelow first needs (length needs) → All (λ d. rank_at seen d < 4294967295) needs
lows_in rows marks next trail s place l needs is first seen same also all =
    rw (is, also) (needs_low rows marks next trail s place l (rw (is, same) at all) (above (rank_at marks) (row rows place)) refl)

pub finishes : (rows : List (List ℕ)) (marks : List Mark) (next trail : List ℕ) → IsSearch rows marks next trail
    → (place : ℕ) → IsLast trail place → (needs : List ℕ) → needs ≡ row rows place → (first seen : List Mark) → first ≡ marks → seen ≡ marks
    → RankedBelow first needs (length needs) → (r : ℕ) → r ≡ above (rank_at seen) needs
    → (marks-2 : List Mark) (next-2 trail-2 : List ℕ)
    → marks-2 ≡ set marks place (Ranked r) → next-2 ≡ next → trail-2 ≡ take (length trail - 1) trail
    → IsStep rows marks trail marks-2 next-2 trail-2
finishes rows marks next trail s place l needs is first seen same also all r rank marks-2 next-2 trail-2 e f g =
    rw (e, f, g) (finished rows marks next trail s place l (rw (is, same) at all) r (rw (is, also) at rank))

-- the search begins at a node
pub begins : (rows : List (List ℕ)) (marks : List Mark) (next trail : List ℕ) → IsSearch rows marks next trail → trail ≡ []
    → (root : ℕ) → root < length rows → fresh (mark_at marks root) ≡ true
    → (marks-2 : List Mark) (next-2 trail-2 : List ℕ)
    → marks-2 ≡ set marks root Met → next-2 ≡ next → trail-2 ≡ trail ++ root ∷ []
    → IsStep rows marks trail marks-2 next-2 trail-2
begins rows marks next trail s none root here new marks-2 next-2 trail-2 e f g =
    rw (e, f, g) (entered rows marks next trail s root here (is_fresh _ new) (λ (some : 0 < length trail). let h = ap length none in absurd (omega arith)))

pub begins_met : (marks : List Mark) (root : ℕ) → root < length marks → (marks-2 : List Mark) → marks-2 ≡ set marks root Met → fresh (mark_at marks-2 root) ≡ false
begins_met marks root here marks-2 e = rw e (let met = mark_same marks root Met here in ap fresh met)

-- a mark that was read is the mark at that place
pub fresh_read : (marks : List Mark) (n : ℕ) (m : Mark) → n < length marks → m ≡ get_or marks n m → fresh m ≡ true → fresh (mark_at marks n) ≡ true
fresh_read marks n m below is so = ap fresh (get_or_default marks n Fresh m below ∙ sym is) ∙ so
