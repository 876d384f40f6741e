-- The steps of the search, as the code does them.
use Rattle.std.proofs.Common.{◌≡◌, ◌<◌, ◌≤◌, ◌+◌, ◌-◌, ◌*◌, ◌⊎◌, inl, inr, ℕ, Bool, true, false, List, [], ◌∷◌, ◌++◌, length, get_or, set, take, refl, sym, ap, ◌∙◌, subst, arith}
use Rattle.std.specs.List.{Contains, count_by}
use Rattle.std.proofs.lemmas.Bool.{cases_eq, cases_lt}
use Rattle.std.proofs.lemmas.List.{get_or-set_same, get_or_default, get_or_past}
use Rattle.graph_rank.specs.Rows.{row, Leads}
use Rattle.graph_rank.specs.Rows.Leads.{step, through}
use Rattle.graph_rank.proofs.Marks.{stands_in}
use Rattle.graph_cycle.specs.declared.search.Search.{Search}
use Rattle.graph_cycle.specs.declared.search.Mark.{Mark}
use Rattle.graph_cycle.specs.declared.search.Mark.TheVariants.{Fresh, Open, Closed}
use Rattle.graph_cycle.specs.Search.{fresh, closed, mark_at, NoLower, IsKnown, IsSearch, IsLast, Enters, Joins, Follows, FollowsMark, Keeps, weight, left, AreMarks, cyclic}
use Rattle.graph_cycle.proofs.Edges.{left_less, contains_front, in_front, longer}
use Rattle.graph_cycle.proofs.Entering.{entered, enters_keeps, enters_meets, enters_less}
use Rattle.graph_cycle.proofs.Joining.{linked, joined, joined_known}
use Rattle.graph_cycle.proofs.Coming.{further, rested}

-- the invariant of a search, of a struct
abbrev pub Search_of : List (List ℕ) → Search → Type 0
Search_of rows s = IsSearch rows s.marks.items s.next.items s.stack.items s.work.items s.bounds.items

abbrev pub weight_of : List (List ℕ) → Search → ℕ
weight_of rows s = weight rows s.marks.items s.next.items s.work.items s.bounds.items

module _ (rows : List (List ℕ)) (old new : Search) (s : Search_of rows old) where
  -- a fresh node is entered to which all open nodes lead
  module _ (d : ℕ) (low : d < length rows) (is : mark_at old.marks.items d ≡ Fresh)
      (link : (i : ℕ) → i < length old.stack.items → Leads rows (get_or old.stack.items i 0) d) (e : Enters d old new) where
    pub enters_search : Search_of rows new
    enters_search =
        rw (e.marks, e.next, e.stack, e.work, e.bounds)
        (entered rows old.marks.items old.next.items old.stack.items old.work.items old.bounds.items s d low is link)

    pub enters_still : Keeps old.marks.items new.marks.items
    enters_still =
        rw e.marks
        (enters_keeps rows old.marks.items old.next.items old.stack.items old.work.items old.bounds.items s d low is link)

    pub enters_met : fresh (mark_at new.marks.items d) ≡ false
    enters_met =
        rw e.marks
        (enters_meets rows old.marks.items old.next.items old.stack.items old.work.items old.bounds.items s d low is link)

    pub enters_low : weight_of rows new < weight_of rows old
    enters_low =
        rw (e.marks, e.next, e.work, e.bounds)
        (enters_less rows old.marks.items old.next.items old.stack.items old.work.items old.bounds.items s d low is link)

  -- what holds after the search followed an edge from a place of the last group
  pub record Followed (p node d : ℕ) : Type 0 where
    pub search : Search_of rows new
    pub keeps : Keeps old.marks.items new.marks.items
    pub known : IsKnown new.bounds.items p (mark_at new.marks.items d)
    pub next : new.next.items ≡ old.next.items
    pub here : p < length new.stack.items
    pub node_same : get_or new.stack.items p 0 ≡ node
    pub busy : Contains new.work.items p
    pub less : weight_of rows new ≤ weight_of rows old

  module _ (b p : ℕ) (last : IsLast old.bounds.items b) (at_work : IsLast old.work.items p) (group : b ≤ p) where
    busy : Contains old.work.items p
    busy =
        subst (λ (v : ℕ). Contains old.work.items v) at_work.here
        (stands_in old.work.items (length old.work.items - 1) (let h = at_work.some in omega (arith, h)))

    pub place_low : p < length old.stack.items
    place_low =
        subst (λ (v : ℕ). v < length old.stack.items) at_work.here
        (s.places.work_rises.low (length old.work.items - 1) (let h = at_work.some in omega (arith, h)))

    pub node_low : get_or old.stack.items p 0 < length rows
    node_low = s.stands.inside p place_low

    module _ (d : ℕ) (edge : Contains (row rows (get_or old.stack.items p 0)) d) where
      pub need_low : d < length rows
      need_low = s.range (get_or old.stack.items p 0) d node_low edge

      link : (i : ℕ) → i < length old.stack.items → Leads rows (get_or old.stack.items i 0) d
      link = linked rows old.marks.items old.next.items old.stack.items old.work.items old.bounds.items s b p last group place_low d edge

      followed_fresh : mark_at old.marks.items d ≡ Fresh → Enters d old new → Followed p (get_or old.stack.items p 0) d
      followed_fresh is e = record {
        search = after;
        keeps = enters_still d need_low is link e;
        known = subst (λ (m : Mark). IsKnown new.bounds.items p m) (sym (ap (λ (ms : List Mark). mark_at ms d) e.marks ∙ mark_same))
            (λ (k : ℕ) (below : k < length new.bounds.items) (low : get_or new.bounds.items k 0 ≤ p).
            let l = after.places.bounds_rise.low k below in
            let size : length new.stack.items ≡ length old.stack.items + 1 = ap length e.stack ∙ longer old.stack.items d in
            omega (arith, l, size));
        next = e.next;
        here = let size : length new.stack.items ≡ length old.stack.items + 1 = ap length e.stack ∙ longer old.stack.items d in let l = place_low in omega (arith, l, size);
        node_same = ap (λ (xs : List ℕ). get_or xs p 0) e.stack ∙ in_front old.stack.items d p place_low;
        busy = subst (λ (xs : List ℕ). Contains xs p) (sym e.work) (contains_front old.work.items (length old.stack.items) p busy);
        less = let l = enters_low d need_low is link e in omega (arith, l);
      }
        where
          after : Search_of rows new
          after = enters_search d need_low is link e

          mark_same : mark_at (set old.marks.items d (Open (length old.stack.items))) d ≡ Open (length old.stack.items)
          mark_same = get_or-set_same old.marks.items d (Open (length old.stack.items)) Fresh
              (let c = s.stands.count in let l = need_low in omega (arith, c, l))

      followed_open : (q : ℕ) → mark_at old.marks.items d ≡ Open q → Joins q old new → Followed p (get_or old.stack.items p 0) d
      followed_open q is j = record {
        search = rw (j.marks, j.next, j.stack, j.work)
            (joined rows old.marks.items old.next.items old.stack.items old.work.items old.bounds.items s b p last group place_low d edge q is new.bounds.items j.bounds);
        keeps = λ (n : ℕ) (met : fresh (mark_at old.marks.items n) ≡ false). ap (λ (ms : List Mark). fresh (mark_at ms n)) j.marks ∙ met;
        known = subst (λ (ms : List Mark). IsKnown new.bounds.items p (mark_at ms d)) (sym j.marks)
            (joined_known rows old.marks.items old.next.items old.stack.items old.work.items old.bounds.items s b p last group place_low d edge q is new.bounds.items j.bounds);
        next = j.next;
        here = let size : length new.stack.items ≡ length old.stack.items = ap length j.stack in let l = place_low in omega (arith, l, size);
        node_same = ap (λ (xs : List ℕ). get_or xs p 0) j.stack;
        busy = subst (λ (xs : List ℕ). Contains xs p) (sym j.work) busy;
        less = rw (j.marks, j.next, j.work) (let h = j.bounds.short in omega (arith, h));
      }

      followed_closed : (o : Bool) → mark_at old.marks.items d ≡ Closed o → new ≡ old → Followed p (get_or old.stack.items p 0) d
      followed_closed o is same = record {
        search = rw same s;
        keeps = λ (n : ℕ) (met : fresh (mark_at old.marks.items n) ≡ false). ap (λ (x : Search). fresh (mark_at x.marks.items n)) same ∙ met;
        known = subst (λ (x : Search). IsKnown x.bounds.items p (mark_at x.marks.items d)) (sym same)
            (subst (λ (m : Mark). IsKnown old.bounds.items p m) (sym is) tt);
        next = ap (λ (x : Search). x.next.items) same;
        here = subst (λ (x : Search). p < length x.stack.items) (sym same) place_low;
        node_same = ap (λ (x : Search). get_or x.stack.items p 0) same;
        busy = subst (λ (x : Search). Contains x.work.items p) (sym same) busy;
        less = let e : weight_of rows new ≡ weight_of rows old = ap (weight_of rows) same in omega (arith, e);
      }

      pub follows : Follows d old new → Followed p (get_or old.stack.items p 0) d
      follows f = go (mark_at old.marks.items d) refl f
        where
          go : (m : Mark) → mark_at old.marks.items d ≡ m → FollowsMark d m old new → Followed p (get_or old.stack.items p 0) d
          go Fresh is e = followed_fresh is e
          go (Open q) is j = followed_open q is j
          go (Closed o) is same = followed_closed o is same

-- the search then comes one place further in the row
module _ (rows : List (List ℕ)) (marks : List Mark) (next stack work bounds : List ℕ) (s : IsSearch rows marks next stack work bounds)
    (p node at d : ℕ) (here : p < length stack) (busy : Contains work p) (known : IsKnown bounds p (mark_at marks d))
    (is_node : get_or stack p 0 ≡ node) (is_at : get_or next node 0 ≡ at) (more : at < length (row rows node))
    (need : get_or (row rows node) at 0 ≡ d) where
  pub goes_on : IsSearch rows marks (set next node (at + 1)) stack work bounds
  goes_on =
      subst (λ (n : ℕ). IsSearch rows marks (set next n (at + 1)) stack work bounds) is_node
      (subst (λ (a : ℕ). IsSearch rows marks (set next (get_or stack p 0) (a + 1)) stack work bounds) same_at
      (further rows marks next stack work bounds s p here busy
      (subst (λ (a : ℕ). a < length (row rows (get_or stack p 0))) (sym same_at)
      (subst (λ (n : ℕ). at < length (row rows n)) (sym is_node) more))
      (subst (λ (a : ℕ). IsKnown bounds p (mark_at marks (get_or (row rows (get_or stack p 0)) a 0))) (sym same_at)
      (subst (λ (n : ℕ). IsKnown bounds p (mark_at marks (get_or (row rows n) at 0))) (sym is_node)
      (subst (λ (e : ℕ). IsKnown bounds p (mark_at marks e)) (sym need) known)))))
    where
      same_at : get_or next (get_or stack p 0) 0 ≡ at
      same_at = ap (λ (n : ℕ). get_or next n 0) is_node ∙ is_at

  pub goes_low : weight rows marks (set next node (at + 1)) work bounds < weight rows marks next work bounds
  goes_low =
      let low : node < length rows = subst (λ (n : ℕ). n < length rows) is_node (s.stands.inside p here) in
      let e : left rows (set next node (get_or next node 0 + 1)) + 1 ≡ left rows next =
      left_less rows next node low s.come.count (subst (λ (a : ℕ). a < length (row rows node)) (sym is_at) more) in
      let f : left rows (set next node (at + 1)) ≡ left rows (set next node (get_or next node 0 + 1)) = ap (λ (a : ℕ). left rows (set next node (a + 1))) (sym is_at) in
      omega (arith, e, f)

-- what was read at a place stands there
pub read_is : (xs : List ℕ) (k v : ℕ) → k < length xs → v ≡ get_or xs k v → get_or xs k 0 ≡ v
read_is xs k v below is = sym (is ∙ get_or_default xs k v 0 below)

-- the search followed the next edge of a place of the last group, and came one place further in its row
pub record Explored (rows : List (List ℕ)) (old new : Search) (node at : ℕ) : Type 0 where
  pub search : IsSearch rows new.marks.items (set new.next.items node (at + 1)) new.stack.items new.work.items new.bounds.items
  pub keeps : Keeps old.marks.items new.marks.items
  pub less : weight rows new.marks.items (set new.next.items node (at + 1)) new.work.items new.bounds.items < weight_of rows old

module _ (rows : List (List ℕ)) (old : Search) (s : Search_of rows old)
    (b p : ℕ) (last : IsLast old.bounds.items b) (at_work : IsLast old.work.items p) (group : b ≤ p)
    (node at : ℕ) (needs : List ℕ) (is_node : node ≡ get_or old.stack.items p node) (is_row : needs ≡ row rows node)
    (is_at : at ≡ get_or old.next.items node at) where
  here : p < length old.stack.items
  here = place_low rows old old s b p last at_work group

  node_is : get_or old.stack.items p 0 ≡ node
  node_is = read_is old.stack.items p node here is_node

  node_here : node < length rows
  node_here = subst (λ (n : ℕ). n < length rows) node_is (node_low rows old old s b p last at_work group)

  at_is : get_or old.next.items node 0 ≡ at
  at_is = read_is old.next.items node at (let c = s.come.count in let l = node_here in omega (arith, c, l)) is_at

  edge : at < length needs → Contains (row rows (get_or old.stack.items p 0)) (get_or needs at 0)
  edge more =
      subst (λ (n : ℕ). Contains (row rows n) (get_or needs at 0)) (sym node_is)
      (subst (λ (xs : List ℕ). Contains xs (get_or needs at 0)) is_row (stands_in needs at more))

  pub need_there : at < length needs → get_or needs at 0 < length old.marks.items
  need_there more =
      let l = need_low rows old old s b p last at_work group (get_or needs at 0) (edge more) in
      let c = s.stands.count in omega (arith, l, c)

  pub explored : (new : Search) → at < length needs → Follows (get_or needs at 0) old new → Explored rows old new node at
  explored new more f =
      let h : Followed rows old new s p (get_or old.stack.items p 0) (get_or needs at 0) = follows rows old new s b p last at_work group (get_or needs at 0) (edge more) f in
      let in_row : at < length (row rows node) = subst (λ (xs : List ℕ). at < length xs) is_row more in
      let same_node : get_or new.stack.items p 0 ≡ node = h.node_same ∙ node_is in
      let same_at : get_or new.next.items node 0 ≡ at = ap (λ (xs : List ℕ). get_or xs node 0) h.next ∙ at_is in
      let need : get_or (row rows node) at 0 ≡ get_or needs at 0 = ap (λ (xs : List ℕ). get_or xs at 0) (sym is_row) in
      record {
        search = goes_on rows new.marks.items new.next.items new.stack.items new.work.items new.bounds.items h.search p node at (get_or needs at 0) h.here h.busy h.known same_node same_at in_row need;
        keeps = h.keeps;
        less =
            let l = goes_low rows new.marks.items new.next.items new.stack.items new.work.items new.bounds.items h.search p node at (get_or needs at 0) h.here h.busy h.known same_node same_at in_row need in
            let m = h.less in omega (arith, l, m);
      }

  pub rests : length needs ≤ at → IsSearch rows old.marks.items old.next.items old.stack.items (take (length old.work.items - 1) old.work.items) old.bounds.items
  rests all =
      rested rows old.marks.items old.next.items old.stack.items old.work.items old.bounds.items s p here at_work
      (subst (λ (n : ℕ). length (row rows n) ≤ get_or old.next.items n 0) (sym node_is)
      (subst (λ (xs : List ℕ). length xs ≤ get_or old.next.items node 0) is_row (let e = at_is in omega (arith, e, all))))

-- a root is entered where the stack is empty
module _ (rows : List (List ℕ)) (old new : Search) (s : Search_of rows old) (blank : old.bounds.items ≡ [])
    (d : ℕ) (low : d < length rows) (is : mark_at old.marks.items d ≡ Fresh) (e : Enters d old new) where
  nothing : (i : ℕ) → i < length old.stack.items → Leads rows (get_or old.stack.items i 0) d
  nothing i below =
      let h : 0 < length old.bounds.items = s.places.some (omega (arith, below)) in
      let none : length old.bounds.items ≡ 0 = ap length blank in absurd (omega (arith, h, none))

  pub begins : Search_of rows new
  begins = enters_search rows old new s d low is nothing e

  pub begins_still : Keeps old.marks.items new.marks.items
  begins_still = enters_still rows old new s d low is nothing e

  pub begins_met : fresh (mark_at new.marks.items d) ≡ false
  begins_met = enters_met rows old new s d low is nothing e

pub is_fresh : (m : Mark) → fresh m ≡ true → m ≡ Fresh
is_fresh Fresh so = refl
is_fresh (Open k) so = cc
is_fresh (Closed on) so = cc

pub fresh_read : (marks : List Mark) (n : ℕ) (m : Mark) → n < length marks → m ≡ get_or marks n m → fresh m ≡ true → mark_at marks n ≡ Fresh
fresh_read marks n m below is so = sym (is ∙ get_or_default marks n m Fresh below) ∙ is_fresh m so

-- ## The end

-- where the stack is empty, what is not fresh is closed
pub all_closed : (rows : List (List ℕ)) (s : Search) → Search_of rows s → s.bounds.items ≡ [] → (n : ℕ)
    → fresh (mark_at s.marks.items n) ≡ false → closed (mark_at s.marks.items n) ≡ true
all_closed rows s h blank n met = go (mark_at s.marks.items n) refl met
  where
    go : (m : Mark) → mark_at s.marks.items n ≡ m → fresh m ≡ false → closed (mark_at s.marks.items n) ≡ true
    go Fresh is so = cc
    go (Open k) is so =
        let at = h.stands.placed n k is in
        let low = at.0 in
        let some : 0 < length s.bounds.items = h.places.some (omega (arith, low)) in
        let none : length s.bounds.items ≡ 0 = ap length blank in absurd (omega (arith, some, none))
    go (Closed on) is so = ap closed is

pub marks_done : (rows : List (List ℕ)) (s : Search) → Search_of rows s → s.bounds.items ≡ []
    → ((n : ℕ) → n < length rows → fresh (mark_at s.marks.items n) ≡ false) → AreMarks rows s.marks.items
marks_done rows s h blank met = record {
  small = h.small;
  count = h.stands.count;
  all = λ (n : ℕ) (low : n < length rows). all_closed rows s h blank n (met n low);
  yes = h.told.yes;
  no = h.told.no;
}

-- a node that the marks do not tell to be on a cycle is on none
module _ (rows : List (List ℕ)) (marks : List Mark) (m : AreMarks rows marks) where
  -- no node that is not there leads on
  empty : (n : ℕ) → length rows ≤ n → (d : ℕ) → Contains (row rows n) d → ⊥
  empty n past d h =
      let none : row rows n ≡ [] = get_or_past rows n [] past in
      let low = h.1 in
      let size : length (row rows n) ≡ 0 = ap length none in
      absurd (omega (arith, low, size))

  far : (n : ℕ) → length rows ≤ n → Leads rows n n → ⊥
  far n past (step a1 b1 h) = empty n past b1 h
  far n past (through a1 k b1 h rest) = empty n past k h

  pub not_cyclic : (n : ℕ) → cyclic (mark_at marks n) ≡ false → Leads rows n n → ⊥
  not_cyclic n is = go (cases_lt n (length rows))
    where
      closed_false : (x : Mark) → closed x ≡ true → cyclic x ≡ false → x ≡ Closed false
      closed_false Fresh c y = cc
      closed_false (Open k) c y = cc
      closed_false (Closed on) c y = ap Closed y

      go : (n < length rows) ⊎ (length rows ≤ n) → Leads rows n n → ⊥
      go (inl low) = m.no n (closed_false (mark_at marks n) (m.all n low) is)
      go (inr past) = far n past

  pub is_cyclic : (n : ℕ) → cyclic (mark_at marks n) ≡ true → Leads rows n n
  is_cyclic n is = m.yes n (closed_true (mark_at marks n) is)
    where
      closed_true : (x : Mark) → cyclic x ≡ true → x ≡ Closed true
      closed_true Fresh y = cc
      closed_true (Open k) y = cc
      closed_true (Closed on) y = ap Closed y

  -- the nodes before one are on no cycle
  abbrev NoneBefore : ℕ → Type 0
  NoneBefore end = (n : ℕ) → n < end → Leads rows n n → ⊥

  pub none_yet : (end : ℕ) → NoneBefore end → cyclic (mark_at marks end) ≡ false → (n : ℕ) → n < end + 1 → Leads rows n n → ⊥
  none_yet end before here n low = go (cases_eq n end)
    where
      go : (n ≡ end) ⊎ (n ≡ end → ⊥) → Leads rows n n → ⊥
      go (inl same) = not_cyclic n (subst (λ (k : ℕ). cyclic (mark_at marks k) ≡ false) (sym same) here)
      go (inr apart) = before n (omega (arith, low, apart))

  pub none_at_end : (end : ℕ) → NoneBefore end → length rows ≤ end → (n : ℕ) → Leads rows n n → ⊥
  none_at_end end before all n = go (cases_lt n end)
    where
      go : (n < end) ⊎ (end ≤ n) → Leads rows n n → ⊥
      go (inl low) = before n low
      go (inr past) = far n (omega (arith, all, past))
