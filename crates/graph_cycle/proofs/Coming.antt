-- The search comes one place further in a row, or to the end of it.
use Rattle.std.proofs.Common.{◌≡◌, ◌<◌, ◌≤◌, ◌+◌, ◌-◌, ◌⊎◌, inl, inr, ℕ, List, [], ◌∷◌, length, get_or, set, take, refl, sym, ap, ◌∙◌, subst, arith}
use Rattle.std.specs.List.{Contains}
use Rattle.std.proofs.lemmas.Bool.{cases_eq, cases_lt}
use Rattle.std.proofs.lemmas.List.{length-set, get_or-set_same, get_or-set_other, get_or-take, length-take-le}
use Rattle.graph_rank.specs.Rows.{row, Leads}
use Rattle.graph_rank.proofs.Marks.{stands_in, place_in}
use Rattle.graph_cycle.specs.declared.search.Mark.{Mark}
use Rattle.graph_cycle.specs.declared.search.Mark.TheVariants.{Fresh, Open, Closed}
use Rattle.graph_cycle.specs.Search.{mark_at, NoLower, IsKnown, IsStack, AreJoined, ArePlaces, HasCome, AreTold, IsSearch, AreRising, IsLast}

-- the place of an open node
abbrev place_of : Mark → ℕ
place_of Fresh = 0
place_of (Open k) = k
place_of (Closed on) = 0

module _ (rows : List (List ℕ)) (marks : List Mark) (next stack work bounds : List ℕ) (s : IsSearch rows marks next stack work bounds) where
  -- a node stands on the stack once
  one_place : (i j : ℕ) → i < length stack → j < length stack → get_or stack i 0 ≡ get_or stack j 0 → i ≡ j
  one_place i j low high same =
      ap place_of (sym (s.stands.opened i low) ∙ ap (mark_at marks) same ∙ s.stands.opened j high)

  module _ (p : ℕ) (here : p < length stack) where
    node_low : get_or stack p 0 < length rows
    node_low = s.stands.inside p here

    room : get_or stack p 0 < length next
    room = let e = s.come.count in let l = node_low in omega (arith, e, l)

    -- one place further
    module _ (busy : Contains work p) (more : get_or next (get_or stack p 0) 0 < length (row rows (get_or stack p 0)))
        (seen : IsKnown bounds p (mark_at marks (get_or (row rows (get_or stack p 0)) (get_or next (get_or stack p 0) 0) 0))) where
      abbrev after : List ℕ
      after = set next (get_or stack p 0) (get_or next (get_or stack p 0) 0 + 1)

      same_next : get_or after (get_or stack p 0) 0 ≡ get_or next (get_or stack p 0) 0 + 1
      same_next = get_or-set_same next (get_or stack p 0) (get_or next (get_or stack p 0) 0 + 1) 0 room

      other_next : (n : ℕ) → (n ≡ get_or stack p 0 → ⊥) → get_or after n 0 ≡ get_or next n 0
      other_next n apart = get_or-set_other next (get_or stack p 0) n (get_or next (get_or stack p 0) 0 + 1) 0 apart

      within : (n : ℕ) → n < length rows → get_or after n 0 ≤ length (row rows n)
      within n below = go (cases_eq n (get_or stack p 0))
        where
          go : (n ≡ get_or stack p 0) ⊎ (n ≡ get_or stack p 0 → ⊥) → get_or after n 0 ≤ length (row rows n)
          go (inl same) =
              subst (λ (m : ℕ). get_or after m 0 ≤ length (row rows m)) (sym same) (let e = same_next in omega (arith, e, more))
          go (inr apart) = subst (λ (v : ℕ). v ≤ length (row rows n)) (sym (other_next n apart)) (s.come.within n below)

      known : (i k : ℕ) → i < length stack → k < get_or after (get_or stack i 0) 0
          → IsKnown bounds i (mark_at marks (get_or (row rows (get_or stack i 0)) k 0))
      known i k below less = go (cases_eq i p)
        where
          it : (k < get_or next (get_or stack p 0) 0) ⊎ (get_or next (get_or stack p 0) 0 ≤ k) → k < get_or after (get_or stack p 0) 0
              → IsKnown bounds p (mark_at marks (get_or (row rows (get_or stack p 0)) k 0))
          it (inl before) l = s.come.known p k here before
          it (inr past) l =
              let same : get_or next (get_or stack p 0) 0 ≡ k = let e = same_next in omega (arith, e, past, l) in
              subst (λ (j : ℕ). IsKnown bounds p (mark_at marks (get_or (row rows (get_or stack p 0)) j 0))) same seen

          go : (i ≡ p) ⊎ (i ≡ p → ⊥) → IsKnown bounds i (mark_at marks (get_or (row rows (get_or stack i 0)) k 0))
          go (inl same) =
              subst (λ (j : ℕ). IsKnown bounds j (mark_at marks (get_or (row rows (get_or stack j 0)) k 0))) (sym same)
              (it (cases_lt k (get_or next (get_or stack p 0) 0)) (subst (λ (j : ℕ). k < get_or after (get_or stack j 0) 0) same less))
          go (inr apart) =
              s.come.known i k below (subst (λ (v : ℕ). k < v) (other_next (get_or stack i 0) (λ (e : get_or stack i 0 ≡ get_or stack p 0). apart (one_place i p below here e))) less)

      done : (i : ℕ) → i < length stack → (Contains work i → ⊥) → get_or after (get_or stack i 0) 0 ≡ length (row rows (get_or stack i 0))
      done i below idle =
          other_next (get_or stack i 0) (λ (e : get_or stack i 0 ≡ get_or stack p 0). idle (subst (λ (j : ℕ). Contains work j) (sym (one_place i p below here e)) busy))
          ∙ s.come.done i below idle

      blank : (n : ℕ) → mark_at marks n ≡ Fresh → get_or after n 0 ≡ 0
      blank n is = other_next n apart ∙ s.come.blank n is
        where
          apart : n ≡ get_or stack p 0 → ⊥
          apart e = let it = s.stands.opened p here in let bad : mark_at marks (get_or stack p 0) ≡ Fresh = ap (mark_at marks) (sym e) ∙ is in cc

      pub further : IsSearch rows marks after stack work bounds
      further = record {
        small = s.small;
        range = s.range;
        stands = s.stands;
        joined = s.joined;
        places = s.places;
        come = record {
          count = length-set next (get_or stack p 0) (get_or next (get_or stack p 0) 0 + 1) ∙ s.come.count;
          blank = blank;
          within = within;
          known = known;
          done = done;
        };
        told = s.told;
      }

    -- the end of the row: the place has no work
    module _ (last : IsLast work p) (all : length (row rows (get_or stack p 0)) ≤ get_or next (get_or stack p 0) 0) where
      abbrev fewer : List ℕ
      fewer = take (length work - 1) work

      size : length fewer ≡ length work - 1
      size = length-take-le (length work - 1) work (omega arith)

      front : (k : ℕ) → k < length fewer → get_or fewer k 0 ≡ get_or work k 0
      front k below = get_or-take (length work - 1) work k 0 (let e = size in omega (arith, e, below))

      inside : (k : ℕ) → k < length fewer → k < length work
      inside k below = let e = size in omega (arith, e, below)

      fewer_rise : AreRising (length stack) fewer
      fewer_rise = record {
        low = λ (k : ℕ) (below : k < length fewer).
            subst (λ (v : ℕ). v < length stack) (sym (front k below)) (s.places.work_rises.low k (inside k below));
        rises = λ (j k : ℕ) (less : j < k) (below : k < length fewer).
            let first : j < length fewer = omega (arith, less, below) in
            subst (λ (v : ℕ). v < get_or fewer k 0) (sym (front j first))
            (subst (λ (v : ℕ). get_or work j 0 < v) (sym (front k below)) (s.places.work_rises.rises j k less (inside k below)));
      }

      end_done : (i : ℕ) → i < length stack → (Contains fewer i → ⊥) → get_or next (get_or stack i 0) 0 ≡ length (row rows (get_or stack i 0))
      end_done i below idle = go (cases_eq i p)
        where
          go : (i ≡ p) ⊎ (i ≡ p → ⊥) → get_or next (get_or stack i 0) 0 ≡ length (row rows (get_or stack i 0))
          go (inl same) =
              subst (λ (j : ℕ). get_or next (get_or stack j 0) 0 ≡ length (row rows (get_or stack j 0))) (sym same)
              (let w = s.come.within (get_or stack p 0) node_low in omega (arith, w, all))
          go (inr apart) = s.come.done i below out
            where
              out : Contains work i → ⊥
              out h = place (place_in work i h)
                where
                  place : (k : ℕ) × (k < length work) × (get_or work k 0 ≡ i) → ⊥
                  place at = at_end (cases_lt at.0 (length work - 1))
                    where
                      at_end : (at.0 < length work - 1) ⊎ (length work - 1 ≤ at.0) → ⊥
                      at_end (inl before) =
                          let low : at.0 < length fewer = let e = size in omega (arith, e, before) in
                          idle (subst (λ (v : ℕ). Contains fewer v) (front at.0 low ∙ at.2) (stands_in fewer at.0 low))
                      at_end (inr past) =
                          let same : at.0 ≡ length work - 1 = let b = at.1 in omega (arith, b, past) in
                          apart (sym at.2 ∙ ap (λ (k : ℕ). get_or work k 0) same ∙ last.here)

      pub rested : IsSearch rows marks next stack (take (length work - 1) work) bounds
      rested = record {
        small = s.small;
        range = s.range;
        stands = s.stands;
        joined = s.joined;
        places = record {
          work_rises = fewer_rise;
          bounds_rise = s.places.bounds_rise;
          some = s.places.some;
          zero = s.places.zero;
        };
        come = record {
          count = s.come.count;
          blank = s.come.blank;
          within = s.come.within;
          known = s.come.known;
          done = end_done;
        };
        told = s.told;
      }
