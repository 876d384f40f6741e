-- A node that was fresh is put at the end of the stack, as a group of its own.
use Rattle.std.proofs.Common.{◌≡◌, ◌<◌, ◌≤◌, ◌+◌, ◌-◌, ◌*◌, ◌⊎◌, inl, inr, ℕ, zero, suc, Bool, true, false, List, [], ◌∷◌, ◌++◌, length, get_or, set, cond, refl, sym, ap, ◌∙◌, subst, arith}
use Rattle.std.specs.List.{Contains, count_by}
use Rattle.std.proofs.lemmas.Bool.{cases_eq, cases_lt}
use Rattle.std.proofs.lemmas.List.{length-set, get_or-set_same, get_or-set_other, get_or_push}
use Rattle.std.proofs.lemmas.List.Sums.{sum_by-set}
use Rattle.graph_rank.specs.Rows.{row, Leads}
use Rattle.graph_cycle.specs.declared.search.Search.{Search}
use Rattle.graph_cycle.specs.declared.search.Mark.{Mark}
use Rattle.graph_cycle.specs.declared.search.Mark.TheVariants.{Fresh, Open, Closed}
use Rattle.graph_cycle.specs.Search.{fresh, closed, mark_at, NoLower, IsKnown, IsStack, AreJoined, ArePlaces, HasCome, AreTold, IsSearch, AreRising, Enters, Keeps, weight, left}
use Rattle.graph_cycle.proofs.Edges.{each_push, in_front, longer, contains_front, contains_last, rising_push, front_no, last_no, known_push, known_met, closed_met}

module _ (rows : List (List ℕ)) (marks : List Mark) (next stack work bounds : List ℕ) (s : IsSearch rows marks next stack work bounds)
    (d : ℕ) (low : d < length rows) (new : mark_at marks d ≡ Fresh)
    (link : (i : ℕ) → i < length stack → Leads rows (get_or stack i 0) d) where
  abbrev pub after : List Mark
  after = set marks d (Open (length stack))

  room : d < length marks
  room = let e = s.stands.count in omega (arith, e, low)

  here : mark_at after d ≡ Open (length stack)
  here = get_or-set_same marks d (Open (length stack)) Fresh room

  other : (n : ℕ) → (n ≡ d → ⊥) → mark_at after n ≡ mark_at marks n
  other n away = get_or-set_other marks d n (Open (length stack)) Fresh away

  kept : (n : ℕ) → fresh (mark_at marks n) ≡ false → mark_at after n ≡ mark_at marks n
  kept n met = other n (λ (same : n ≡ d). let bad : mark_at marks n ≡ Fresh = rw same new in cc)

  -- a node that is closed or fresh now was so before
  was : (n : ℕ) (m : Mark) → (m ≡ Open (length stack) → ⊥) → mark_at after n ≡ m → mark_at marks n ≡ m
  was n m away is = sym (other n (λ (same : n ≡ d). away (sym is ∙ ap (mark_at after) same ∙ here))) ∙ is

  no_fresh : Fresh ≡ Open (length stack) → ⊥
  no_fresh e = cc

  no_closed : (on : Bool) → Closed on ≡ Open (length stack) → ⊥
  no_closed on e = cc

  stands : IsStack rows after (stack ++ d ∷ [])
  stands = record {
    count = length-set marks d (Open (length stack)) ∙ s.stands.count;
    inside = each_push stack d (λ (k v : ℕ). v < length rows) s.stands.inside low;
    opened = each_push stack d (λ (k v : ℕ). mark_at after v ≡ Open k)
        (λ (k : ℕ) (b : k < length stack). let is = s.stands.opened k b in kept (get_or stack k 0) (ap fresh is) ∙ is) here;
    placed = placed;
  }
    where
      place_of : Mark → ℕ
      place_of Fresh = 0
      place_of (Open k) = k
      place_of (Closed on) = 0

      placed : (n k : ℕ) → mark_at after n ≡ Open k → (k < length (stack ++ d ∷ [])) × (get_or (stack ++ d ∷ []) k 0 ≡ n)
      placed n k is = go (cases_eq n d)
        where
          go : (n ≡ d) ⊎ (n ≡ d → ⊥) → (k < length (stack ++ d ∷ [])) × (get_or (stack ++ d ∷ []) k 0 ≡ n)
          go (inl same) =
              let at : length stack ≡ k = ap place_of (sym here ∙ ap (mark_at after) (sym same) ∙ is) in
              (let e = longer stack d in omega (arith, e, at), get_or_push stack d 0 k at ∙ sym same)
          go (inr away) =
              let old = s.stands.placed n k (sym (other n away) ∙ is) in
              (let e = longer stack d in let b = old.0 in omega (arith, e, b), in_front stack d k old.0 ∙ old.1)

  joined : AreJoined rows (stack ++ d ∷ []) (bounds ++ length stack ∷ [])
  joined = record {
    forth = λ i j less below. each_push stack d (λ (j v : ℕ). i < j → Leads rows (get_or (stack ++ d ∷ []) i 0) v)
        (λ (j : ℕ) (b : j < length stack) (l : i < j).
        let first : i < length stack = omega (arith, b, l) in
        subst (λ (v : ℕ). Leads rows v (get_or stack j 0)) (sym (in_front stack d i first)) (s.joined.forth i j l b))
        (λ (l : i < length stack). subst (λ (v : ℕ). Leads rows v d) (sym (in_front stack d i l)) (link i l))
        j below less;
    back = λ i j less below away. each_push stack d (λ (j v : ℕ). i < j → NoLower (bounds ++ length stack ∷ []) j i → Leads rows v (get_or (stack ++ d ∷ []) i 0))
        (λ (j : ℕ) (b : j < length stack) (l : i < j) (h : NoLower (bounds ++ length stack ∷ []) j i).
        let first : i < length stack = omega (arith, b, l) in
        subst (λ (v : ℕ). Leads rows (get_or stack j 0) v) (sym (in_front stack d i first)) (s.joined.back i j l b (front_no bounds (length stack) j i h)))
        (λ (l : i < length stack) (h : NoLower (bounds ++ length stack ∷ []) (length stack) i).
        let high : length stack ≤ i = last_no bounds (length stack) (length stack) i h (omega arith) in
        absurd (omega (arith, high, l)))
        j below less away;
  }

  places : ArePlaces (stack ++ d ∷ []) (work ++ length stack ∷ []) (bounds ++ length stack ∷ [])
  places = record {
    work_rises = rising_push (length stack) (length (stack ++ d ∷ [])) (length stack) work s.places.work_rises (omega arith) more;
    bounds_rise = rising_push (length stack) (length (stack ++ d ∷ [])) (length stack) bounds s.places.bounds_rise (omega arith) more;
    some = λ _. let e = longer bounds (length stack) in omega (arith, e);
    zero = λ _. first (cases_lt 0 (length bounds));
  }
    where
      more : length stack < length (stack ++ d ∷ [])
      more = let e = longer stack d in omega (arith, e)

      first : (0 < length bounds) ⊎ (length bounds ≤ 0) → get_or (bounds ++ length stack ∷ []) 0 0 ≡ 0
      first (inl some) = in_front bounds (length stack) 0 some ∙ s.places.zero some
      first (inr none) =
          let empty : length bounds ≡ 0 = omega (arith, none) in
          get_or_push bounds (length stack) 0 0 empty ∙ blank (cases_lt 0 (length stack))
        where
          blank : (0 < length stack) ⊎ (length stack ≤ 0) → length stack ≡ 0
          blank (inl some) = let h = s.places.some some in absurd (omega (arith, h, none))
          blank (inr away) = omega (arith, away)

  come : HasCome rows after next (stack ++ d ∷ []) (work ++ length stack ∷ []) (bounds ++ length stack ∷ [])
  come = record {
    count = s.come.count;
    blank = λ n is. s.come.blank n (was n Fresh no_fresh is);
    within = s.come.within;
    known = each_known;
    done = each_push stack d (λ (i v : ℕ). (Contains (work ++ length stack ∷ []) i → ⊥) → get_or next v 0 ≡ length (row rows v))
        (λ (i : ℕ) (b : i < length stack) (away : Contains (work ++ length stack ∷ []) i → ⊥).
        s.come.done i b (λ (h : Contains work i). away (contains_front work (length stack) i h)))
        (λ (away : Contains (work ++ length stack ∷ []) (length stack) → ⊥). absurd (away (contains_last work (length stack))));
  }
    where
      old : (i : ℕ) → i < length stack → (k : ℕ) → k < get_or next (get_or stack i 0) 0
          → IsKnown (bounds ++ length stack ∷ []) i (mark_at after (get_or (row rows (get_or stack i 0)) k 0))
      old i b k less =
          let it = s.come.known i k b less in
          let met = known_met bounds i (mark_at marks (get_or (row rows (get_or stack i 0)) k 0)) it in
          subst (λ (m : Mark). IsKnown (bounds ++ length stack ∷ []) i m) (sym (kept (get_or (row rows (get_or stack i 0)) k 0) met))
          (known_push bounds (length stack) i (mark_at marks (get_or (row rows (get_or stack i 0)) k 0)) b it)

      each_known : (i k : ℕ) → i < length (stack ++ d ∷ []) → k < get_or next (get_or (stack ++ d ∷ []) i 0) 0
          → IsKnown (bounds ++ length stack ∷ []) i (mark_at after (get_or (row rows (get_or (stack ++ d ∷ []) i 0)) k 0))
      each_known i k below less =
          each_push stack d (λ (i v : ℕ). (k : ℕ) → k < get_or next v 0
          → IsKnown (bounds ++ length stack ∷ []) i (mark_at after (get_or (row rows v) k 0)))
          old
          (λ (k : ℕ) (l : k < get_or next d 0). let zero = s.come.blank d new in absurd (omega (arith, zero, l)))
          i below k less

  told : AreTold rows after
  told = record {
    yes = λ n is. s.told.yes n (was n (Closed true) (no_closed true) is);
    no = λ n is. s.told.no n (was n (Closed false) (no_closed false) is);
    needs = λ n e is h. needs n e (mark_at after n) refl is h;
  }
    where
      needs : (n e : ℕ) (m : Mark) → mark_at after n ≡ m → closed m ≡ true → Contains (row rows n) e → closed (mark_at after e) ≡ true
      needs n e Fresh is c h = cc
      needs n e (Open k) is c h = cc
      needs n e (Closed on) is c h =
          let old : closed (mark_at marks e) ≡ true = s.told.needs n e (ap closed (was n (Closed on) (no_closed on) is)) h in
          ap closed (kept e (closed_met (mark_at marks e) old)) ∙ old

  pub entered : IsSearch rows after next (stack ++ d ∷ []) (work ++ length stack ∷ []) (bounds ++ length stack ∷ [])
  entered = record {
    small = s.small;
    range = s.range;
    stands = stands;
    joined = joined;
    places = places;
    come = come;
    told = told;
  }

  pub enters_keeps : Keeps marks after
  enters_keeps n met = ap fresh (kept n met) ∙ met

  pub enters_meets : fresh (mark_at after d) ≡ false
  enters_meets = ap fresh here

  one_less : count_by fresh after + 1 ≡ count_by fresh marks
  one_less =
      let e = sum_by-set (λ (x : Mark). cond {A = ℕ} (fresh x) 1 0) marks d (Open (length stack)) Fresh room in
      let h = rw new at e in omega (arith, h)

  pub enters_less : weight rows after next (work ++ length stack ∷ []) (bounds ++ length stack ∷ []) < weight rows marks next work bounds
  enters_less =
      let e = one_less in
      let f = longer work (length stack) in
      let g = longer bounds (length stack) in
      omega (arith, e, f, g)
