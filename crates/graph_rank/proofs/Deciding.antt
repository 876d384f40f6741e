-- In a graph in which some node has no rank, some node depends on itself.
use Rattle.std.proofs.Common.{◌≡◌, ◌<◌, ◌≤◌, ℕ, zero, suc, Bool, true, false, cond, not, Option, Some, None, List, [], ◌∷◌, length, get_or, set, replicate, refl, ap, sym, ◌∙◌, subst, arith, ◌⊎◌, inl, inr}
use Rattle.std.specs.Prelude.{unwrap_or}
use Rattle.std.specs.List.{Contains, count_by}
use Rattle.std.specs.Option.{is_none}
use Rattle.std.proofs.lemmas.Bool.{cases_eq, cases_lt}
use Rattle.std.proofs.lemmas.List.{length-set, length-replicate, get_or-set_same, get_or-set_other, get_or_past, get_or-replicate}
use Rattle.std.proofs.lemmas.List.Sums.{sum_by-set}
use Rattle.graph_rank.specs.Rows.{row, InRange, Leads}
use Rattle.graph_rank.specs.Rows.Leads.{step, through}
use Rattle.graph_rank.specs.Ranks.{above, HasRank}
use Rattle.graph_rank.specs.Ranks.HasRank.{ranked as has}
use Rattle.graph_rank.specs.Answers.{UnrankedHasCycle}

-- one step more
leads_on : (rows : List (List ℕ)) (a b c : ℕ) → Leads rows a b → Contains (row rows b) c → Leads rows a c
leads_on rows a b c (step a1 b1 h) more = through a1 b1 c h (step b1 c more)
leads_on rows a b c (through a1 m b1 h rest) more = through a1 m c h (leads_on rows m b1 c rest more)

told : List (Option ℕ) → ℕ → Option ℕ
told marks n = get_or marks n None

-- ranks that were found so far
record IsSound (rows : List (List ℕ)) (marks : List (Option ℕ)) : Type 0 where
  count : length marks ≡ length rows
  rank : (n k : ℕ) → n < length rows → get_or marks n None ≡ Some k → HasRank rows n k

-- a node of the list without rank so far, if there is one
find_none : (marks : List (Option ℕ)) (ds : List ℕ)
    → ((d : ℕ) → Contains ds d → (k : ℕ) × (get_or marks d None ≡ Some k)) ⊎ ((d : ℕ) × Contains ds d × (get_or marks d None ≡ None))
find_none marks [] = inl (λ d h. absurd (let below = h.1 in omega arith))
find_none marks (e ∷ ds) = go (get_or marks e None) refl (find_none marks ds)
  where
    go : (o : Option ℕ) → get_or marks e None ≡ o
        → ((d : ℕ) → Contains ds d → (k : ℕ) × (get_or marks d None ≡ Some k)) ⊎ ((d : ℕ) × Contains ds d × (get_or marks d None ≡ None))
        → ((d : ℕ) → Contains (e ∷ ds) d → (k : ℕ) × (get_or marks d None ≡ Some k)) ⊎ ((d : ℕ) × Contains (e ∷ ds) d × (get_or marks d None ≡ None))
    go None is rest = inr (e, (0, omega arith, refl), is)
    go (Some k) is (inr (d, h, none)) = inr (d, (suc h.0, omega (arith, h.1), h.2), none)
    go (Some k) is (inl all) = inl each
      where
        each : (d : ℕ) → Contains (e ∷ ds) d → (j : ℕ) × (get_or marks d None ≡ Some j)
        each d (zero, below, at) = (k, subst (λ (n : ℕ). get_or marks n None ≡ Some k) at is)
        each d (suc i, below, at) = all d (i, omega arith, at)

-- a node whose row is ranked, and that has no rank so far
record IsReady (rows : List (List ℕ)) (marks : List (Option ℕ)) : Type 0 where
  node : ℕ
  below : node < length rows
  none : get_or marks node None ≡ None
  all : (d : ℕ) → Contains (row rows node) d → (k : ℕ) × (get_or marks d None ≡ Some k)

-- each of the first nodes that has no rank so far needs such a node
IsStuckBelow : List (List ℕ) → List (Option ℕ) → ℕ → Type 0
IsStuckBelow rows marks i = (n : ℕ) → n < i → get_or marks n None ≡ None → (d : ℕ) × Contains (row rows n) d × (get_or marks d None ≡ None)

scan : (rows : List (List ℕ)) (marks : List (Option ℕ)) (i : ℕ) → i ≤ length rows → IsReady rows marks ⊎ IsStuckBelow rows marks i
unfolding IsStuckBelow
scan rows marks zero within = inr (λ n below none. absurd (omega arith))
scan rows marks (suc i) within = go (scan rows marks i (omega arith)) (get_or marks i None) refl (find_none marks (row rows i))
  where
    go : IsReady rows marks ⊎ IsStuckBelow rows marks i → (o : Option ℕ) → get_or marks i None ≡ o
        → ((d : ℕ) → Contains (row rows i) d → (k : ℕ) × (get_or marks d None ≡ Some k)) ⊎ ((d : ℕ) × Contains (row rows i) d × (get_or marks d None ≡ None))
        → IsReady rows marks ⊎ IsStuckBelow rows marks (suc i)
    go (inl ready) o is found = inl ready
    go (inr stuck) None is (inl all) = inl (record { node = i; below = omega arith; none = is; all = all })
    go (inr stuck) None is (inr need) = inr each
      where
        each : (n : ℕ) → n < suc i → get_or marks n None ≡ None → (d : ℕ) × Contains (row rows n) d × (get_or marks d None ≡ None)
        each n below none = last (cases_eq n i)
          where
            last : (n ≡ i) ⊎ (n ≡ i → ⊥) → (d : ℕ) × Contains (row rows n) d × (get_or marks d None ≡ None)
            last (inl same) = (need.0, subst (λ (m : ℕ). Contains (row rows m) need.0) (sym same) need.1, need.2)
            last (inr other) = stuck n (omega arith) none
    go (inr stuck) (Some k) is found = inr each
      where
        each : (n : ℕ) → n < suc i → get_or marks n None ≡ None → (d : ℕ) × Contains (row rows n) d × (get_or marks d None ≡ None)
        each n below none = last (cases_eq n i)
          where
            last : (n ≡ i) ⊎ (n ≡ i → ⊥) → (d : ℕ) × Contains (row rows n) d × (get_or marks d None ≡ None)
            last (inl same) = let is-2 : get_or marks n None ≡ Some k = rw same is in absurd (cc)
            last (inr other) = stuck n (omega arith) none

-- the ranks that were found, with all others stuck
record AreFound (rows : List (List ℕ)) : Type 0 where
  marks : List (Option ℕ)
  sound : IsSound rows marks
  stuck : IsStuckBelow rows marks (length rows)

module _ (rows : List (List ℕ)) (closed : InRange rows) where
  one_more : (marks : List (Option ℕ)) → IsSound rows marks → (r : IsReady rows marks)
      → IsSound rows (set marks r.node (Some (above (λ d. unwrap_or (get_or marks d None) 0) (row rows r.node))))
  one_more marks s r = record { count = length-set marks r.node _ ∙ s.count; rank = rank-2 }
    where
      rank_of : ℕ → ℕ
      rank_of d = unwrap_or (get_or marks d None) 0

      its : HasRank rows r.node (above (λ d. unwrap_or (get_or marks d None) 0) (row rows r.node))
      its = has r.node _ (λ d. unwrap_or (get_or marks d None) 0) r.below
          (λ d h.
          let known = r.all d h in
          let is : unwrap_or (get_or marks d None) 0 ≡ known.0 = ap (λ (o : Option ℕ). unwrap_or o 0) known.1 in
          subst (λ (k : ℕ). HasRank rows d k) (sym is) (s.rank d known.0 (closed r.node d r.below h) known.1))
          refl

      rank-2 : (n k : ℕ) → n < length rows → get_or (set marks r.node (Some (above (λ d. unwrap_or (get_or marks d None) 0) (row rows r.node)))) n None ≡ Some k → HasRank rows n k
      rank-2 n k below is = go (cases_eq n r.node)
        where
          go : (n ≡ r.node) ⊎ (n ≡ r.node → ⊥) → HasRank rows n k
          go (inl same) =
              let now = get_or-set_same marks r.node (Some (above (λ d. unwrap_or (get_or marks d None) 0) (row rows r.node))) None (let e = s.count in let h = r.below in omega arith) in
              let is-2 = subst (λ (m : ℕ). get_or (set marks r.node (Some (above (λ d. unwrap_or (get_or marks d None) 0) (row rows r.node)))) m None ≡ Some k) same is in
              let e : above (λ d. unwrap_or (get_or marks d None) 0) (row rows r.node) ≡ k = cc in
              subst (λ (m : ℕ). HasRank rows m k) (sym same) (subst (λ (j : ℕ). HasRank rows r.node j) e its)
          go (inr other) = s.rank n k below (sym (get_or-set_other marks r.node n _ None other) ∙ is)

  fewer : (marks : List (Option ℕ)) → IsSound rows marks → (r : IsReady rows marks) (k : ℕ)
      → count_by is_none (set marks r.node (Some k)) < count_by is_none marks
  fewer marks s r k =
      let room : r.node < length marks = let e = s.count in let h = r.below in omega arith in
      let none = r.none in
      let e = sum_by-set (λ x. cond {A = ℕ} (is_none x) 1 0) marks r.node (Some k) None room in
      let h = rw none at e in omega arith

  next_found : (fuel : ℕ) (marks : List (Option ℕ)) → IsSound rows marks → count_by is_none marks ≤ suc fuel
      → ((more : List (Option ℕ)) → IsSound rows more → count_by is_none more ≤ fuel → AreFound rows)
      → IsReady rows marks ⊎ IsStuckBelow rows marks (length rows) → AreFound rows
  next_found fuel marks s few deep (inr stuck) = record { marks = marks; sound = s; stuck = stuck }
  next_found fuel marks s few deep (inl r) =
      let less = fewer marks s r (above (λ d. unwrap_or (get_or marks d None) 0) (row rows r.node)) in
      deep (set marks r.node (Some (above (λ d. unwrap_or (get_or marks d None) 0) (row rows r.node)))) (one_more marks s r) (omega arith)

  last_found : (marks : List (Option ℕ)) → IsSound rows marks → count_by is_none marks ≤ 0
      → IsReady rows marks ⊎ IsStuckBelow rows marks (length rows) → AreFound rows
  last_found marks s few (inr stuck) = record { marks = marks; sound = s; stuck = stuck }
  last_found marks s few (inl r) = let less = fewer marks s r 0 in absurd (omega arith)

  find_all : (fuel : ℕ) (marks : List (Option ℕ)) → IsSound rows marks → count_by is_none marks ≤ fuel → AreFound rows
  find_all zero marks s few = last_found marks s few (scan rows marks (length rows) (omega arith))
  find_all (suc fuel) marks s few =
      next_found fuel marks s few (λ more t less. find_all fuel more t less) (scan rows marks (length rows) (omega arith))

  found : AreFound rows
  found = find_all (count_by (is_none {T = ℕ}) (replicate (length rows) None)) (replicate (length rows) None)
      (record {
        count = length-replicate (length rows) None;
        rank = λ n k below is. let none : ◌≡◌ {A = Option ℕ} (get_or (replicate (length rows) None) n None) None = get_or-replicate (length rows) n None None below in absurd (cc);
      })
      (omega arith)

  -- the walk over nodes without rank comes round
  module _ (f : AreFound rows) where
    Behind : List Bool → ℕ → Type 0
    Behind seen n = (m : ℕ) → get_or seen m false ≡ true → Leads rows m n

    unseen_less : (seen : List Bool) (n : ℕ) → n < length seen → get_or seen n false ≡ false → count_by not (set seen n true) < count_by not seen
    unseen_less seen n room new =
        let e = sum_by-set (λ x. cond {A = ℕ} (not x) 1 0) seen n true false room in
        let h = rw new at e in omega arith

    behind_more : (seen : List Bool) (n d : ℕ) → n < length seen → Contains (row rows n) d → Behind seen n → Behind (set seen n true) d
    unfolding Behind
    behind_more seen n d room h back m is = go (cases_eq m n)
      where
        go : (m ≡ n) ⊎ (m ≡ n → ⊥) → Leads rows m d
        go (inl same) = subst (λ (i : ℕ). Leads rows i d) (sym same) (step n d h)
        go (inr other) = leads_on rows m n d (back m (sym (get_or-set_other seen n m true false other) ∙ is)) h

    go_on : (fuel : ℕ) (seen : List Bool) (n : ℕ) → length seen ≡ length rows → count_by not seen ≤ suc fuel → n < length rows → get_or f.marks n None ≡ None → Behind seen n
        → ((more : List Bool) (d : ℕ) → length more ≡ length rows → count_by not more ≤ fuel → d < length rows → get_or f.marks d None ≡ None → Behind more d → (m : ℕ) × Leads rows m m)
        → (b : Bool) → get_or seen n false ≡ b → (m : ℕ) × Leads rows m m
    unfolding Behind IsStuckBelow
    go_on fuel seen n size few below none back deep true is = (n, back n is)
    go_on fuel seen n size few below none back deep false is =
        let need = f.stuck n below none in
        let room : n < length seen = omega arith in
        let less = unseen_less seen n room is in
        deep (set seen n true) need.0 (length-set seen n true ∙ size) (omega arith) (closed n need.0 below need.1) need.2
        (behind_more seen n need.0 room need.1 back)

    stop : (seen : List Bool) (n : ℕ) → length seen ≡ length rows → count_by not seen ≤ 0 → n < length rows → Behind seen n
        → (b : Bool) → get_or seen n false ≡ b → (m : ℕ) × Leads rows m m
    unfolding Behind
    stop seen n size few below back true is = (n, back n is)
    stop seen n size few below back false is =
        let less = unseen_less seen n (omega arith) is in absurd (omega arith)

    walk : (fuel : ℕ) (seen : List Bool) (n : ℕ) → length seen ≡ length rows → count_by not seen ≤ fuel → n < length rows → get_or f.marks n None ≡ None → Behind seen n
        → (m : ℕ) × Leads rows m m
    walk zero seen n size few below none back = stop seen n size few below back (get_or seen n false) refl
    walk (suc fuel) seen n size few below none back =
        go_on fuel seen n size few below none back (λ more d s c b u h. walk fuel more d s c b u h) (get_or seen n false) refl

  start : (f : AreFound rows) (n : ℕ) → n < length rows → (o : Option ℕ) → get_or f.marks n None ≡ o → ((k : ℕ) → HasRank rows n k → ⊥) → (m : ℕ) × Leads rows m m
  unfolding Behind
  start f n below (Some k) is none = absurd (none k (f.sound.rank n k below is))
  start f n below None is none =
      walk f (count_by not (replicate (length rows) false)) (replicate (length rows) false) n (length-replicate (length rows) false) (omega arith) below is
      (λ m seen. absurd (go m seen (cases_lt m (length rows))))
    where
      go : (m : ℕ) → get_or (replicate (length rows) false) m false ≡ true → (m < length rows) ⊎ (length rows ≤ m) → ⊥
      go m seen (inl in-2) = let no-one : get_or (replicate (length rows) false) m false ≡ false = get_or-replicate (length rows) m false false in-2 in cc
      go m seen (inr past) = let size = length-replicate (length rows) false in let no-one : get_or (replicate (length rows) false) m false ≡ false = get_or_past (replicate (length rows) false) m false (omega arith) in cc

pub some_cycle : UnrankedHasCycle
some_cycle rows n closed u = start rows closed (found rows closed) n u.in_range (get_or (found rows closed).marks n None) refl u.no_rank
