-- A node of the last group leads to an open node: the groups from there on are joined.
use Rattle.std.proofs.Common.{◌≡◌, ◌<◌, ◌≤◌, ◌+◌, ◌-◌, ◌⊎◌, inl, inr, ℕ, List, [], ◌∷◌, length, get_or, take, refl, sym, ap, ◌∙◌, subst, arith}
use Rattle.std.specs.List.{Contains}
use Rattle.std.proofs.lemmas.Bool.{cases_eq, cases_lt}
use Rattle.std.proofs.lemmas.List.{get_or-take}
use Rattle.graph_rank.specs.Rows.{row, Leads}
use Rattle.graph_rank.specs.Rows.Leads.{step, through}
use Rattle.graph_cycle.specs.declared.search.Mark.{Mark}
use Rattle.graph_cycle.specs.declared.search.Mark.TheVariants.{Fresh, Open, Closed}
use Rattle.graph_cycle.specs.Search.{mark_at, NoLower, IsKnown, IsStack, AreJoined, ArePlaces, HasCome, AreTold, IsSearch, AreRising, IsLast, AreCut}
use Rattle.graph_cycle.proofs.Edges.{leads_on, below_last}

module _ (rows : List (List ℕ)) (marks : List Mark) (next stack work bounds : List ℕ) (s : IsSearch rows marks next stack work bounds)
    (b p : ℕ) (last : IsLast bounds b) (group : b ≤ p) (here : p < length stack) where
  -- no group begins behind the place
  all_low : (k : ℕ) → k < length bounds → get_or bounds k 0 ≤ p
  all_low k below =
      let l = below_last (length stack) bounds s.places.bounds_rise b k last.here below in omega (arith, l, group)

  -- all open nodes lead to the one at the place
  reach : (i : ℕ) → i < length stack → (i ≡ p) ⊎ Leads rows (get_or stack i 0) (get_or stack p 0)
  reach i below = go (cases_eq i p) (cases_lt i p)
    where
      go : (i ≡ p) ⊎ (i ≡ p → ⊥) → (i < p) ⊎ (p ≤ i) → (i ≡ p) ⊎ Leads rows (get_or stack i 0) (get_or stack p 0)
      go (inl same) o = inl same
      go (inr apart) (inl before) = inr (s.joined.forth i p before here)
      go (inr apart) (inr past) =
          inr (s.joined.back p i (omega (arith, apart, past)) below (λ (k : ℕ) (l : k < length bounds) (at : get_or bounds k 0 ≤ i). all_low k l))

  module _ (d : ℕ) (edge : Contains (row rows (get_or stack p 0)) d) where
    pub linked : (i : ℕ) → i < length stack → Leads rows (get_or stack i 0) d
    linked i below = go (reach i below)
      where
        go : (i ≡ p) ⊎ Leads rows (get_or stack i 0) (get_or stack p 0) → Leads rows (get_or stack i 0) d
        go (inl same) = subst (λ (j : ℕ). Leads rows (get_or stack j 0) d) (sym same) (step (get_or stack p 0) d edge)
        go (inr way) = leads_on rows (get_or stack i 0) (get_or stack p 0) d way (step (get_or stack p 0) d edge)

    module _ (q : ℕ) (at : mark_at marks d ≡ Open q) (fewer : List ℕ) (cut : AreCut bounds q fewer) where
      low : q < length stack
      low = (s.stands.placed d q at).0

      is : get_or stack q 0 ≡ d
      is = (s.stands.placed d q at).1

      front : (k : ℕ) → k < length fewer → get_or fewer k 0 ≡ get_or bounds k 0
      front k below = ap (λ (xs : List ℕ). get_or xs k 0) (sym cut.front) ∙ get_or-take (length fewer) bounds k 0 below

      inside : (k : ℕ) → k < length fewer → k < length bounds
      inside k below = let h = cut.short in omega (arith, h, below)

      fewer_rise : AreRising (length stack) fewer
      fewer_rise = record {
        low = λ (k : ℕ) (below : k < length fewer).
            subst (λ (v : ℕ). v < length stack) (sym (front k below)) (s.places.bounds_rise.low k (inside k below));
        rises = λ (j k : ℕ) (less : j < k) (below : k < length fewer).
            let first : j < length fewer = omega (arith, less, below) in
            subst (λ (v : ℕ). v < get_or fewer k 0) (sym (front j first))
            (subst (λ (v : ℕ). get_or bounds j 0 < v) (sym (front k below)) (s.places.bounds_rise.rises j k less (inside k below)));
      }

      all_cut : (k : ℕ) → k < length fewer → get_or fewer k 0 ≤ q
      all_cut k below =
          let some : 0 < length fewer = omega (arith, below) in
          let h = cut.last some in
          let l = below_last (length stack) fewer fewer_rise (get_or fewer (length fewer - 1) 0) k refl below in omega (arith, h, l)

      -- a bound that is no greater than the place is not dropped
      stays : (k : ℕ) → k < length bounds → get_or bounds k 0 ≤ q → k < length fewer
      stays k below high = go (cases_lt k (length fewer))
        where
          go : (k < length fewer) ⊎ (length fewer ≤ k) → k < length fewer
          go (inl before) = before
          go (inr past) = let h = cut.dropped k past below in absurd (omega (arith, h, high))

      fewer_no : (i j : ℕ) → NoLower bounds i j → NoLower fewer i j
      fewer_no i j h = λ (k : ℕ) (below : k < length fewer).
          subst (λ (v : ℕ). v ≤ i → v ≤ j) (sym (front k below)) (h k (inside k below))

      -- among places up to that of the node nothing changes
      old_no : (i j : ℕ) → i ≤ q → NoLower fewer i j → NoLower bounds i j
      old_no i j up h = λ (k : ℕ) (below : k < length bounds) (high : get_or bounds k 0 ≤ i).
          let kept : k < length fewer = stays k below (omega (arith, up, high)) in
          subst (λ (v : ℕ). v ≤ i → v ≤ j) (front k kept) (h k kept) high

      fewer_known : (i : ℕ) (m : Mark) → IsKnown bounds i m → IsKnown fewer i m
      fewer_known i Fresh h = h
      fewer_known i (Open j) h = fewer_no i j h
      fewer_known i (Closed on) h = h

      back : (i j : ℕ) → i < j → j < length stack → NoLower fewer j i → Leads rows (get_or stack j 0) (get_or stack i 0)
      back i j less below h = go (cases_lt i q) (cases_lt j q)
        where
          to : Leads rows (get_or stack j 0) (get_or stack q 0)
          to = subst (λ (v : ℕ). Leads rows (get_or stack j 0) v) (sym is) (linked j below)

          up : (q ≡ i) ⊎ (q ≡ i → ⊥) → q ≤ i → Leads rows (get_or stack j 0) (get_or stack i 0)
          up (inl same) high = subst (λ (k : ℕ). Leads rows (get_or stack j 0) (get_or stack k 0)) same to
          up (inr apart) high =
              leads_on rows (get_or stack j 0) (get_or stack q 0) (get_or stack i 0) to
              (s.joined.forth q i (omega (arith, apart, high)) (omega (arith, less, below)))

          go : (i < q) ⊎ (q ≤ i) → (j < q) ⊎ (q ≤ j) → Leads rows (get_or stack j 0) (get_or stack i 0)
          go (inr high) o = up (cases_eq q i) high
          go (inl first) (inl second) = s.joined.back i j less below (old_no j i (omega (arith, second)) h)
          go (inl first) (inr second) =
              leads_on rows (get_or stack j 0) (get_or stack q 0) (get_or stack i 0) to
              (s.joined.back i q first low (old_no q i (omega arith) (λ (k : ℕ) (l : k < length fewer) (v : get_or fewer k 0 ≤ q). h k l (omega (arith, v, second)))))

      some : 0 < length stack → 0 < length fewer
      some filled =
          let first : 0 < length bounds = s.places.some filled in
          let zero = s.places.zero first in
          stays 0 first (omega (arith, zero))

      pub joined : IsSearch rows marks next stack work fewer
      joined = record {
        small = s.small;
        range = s.range;
        stands = s.stands;
        joined = record { forth = s.joined.forth; back = back };
        places = record {
          work_rises = s.places.work_rises;
          bounds_rise = fewer_rise;
          some = some;
          zero = λ (first : 0 < length fewer). front 0 first ∙ s.places.zero (inside 0 first);
        };
        come = record {
          count = s.come.count;
          blank = s.come.blank;
          within = s.come.within;
          known = λ i k below less. fewer_known i (mark_at marks (get_or (row rows (get_or stack i 0)) k 0)) (s.come.known i k below less);
          done = s.come.done;
        };
        told = s.told;
      }

      -- the node is in the group of the place now
      pub joined_known : IsKnown fewer p (mark_at marks d)
      joined_known = subst (λ (m : Mark). IsKnown fewer p m) (sym at) (λ (k : ℕ) (below : k < length fewer) (v : get_or fewer k 0 ≤ p). all_cut k below)
