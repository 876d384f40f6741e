-- What it is to lead on, and what stands at the end of a list.
use Rattle.std.proofs.Common.{◌≡◌, ◌<◌, ◌≤◌, ◌+◌, ◌-◌, ◌⊎◌, inl, inr, ℕ, zero, suc, Bool, true, List, [], ◌∷◌, ◌++◌, length, get_or, set, refl, sym, ap, ◌∙◌, subst, arith, length-append, false}
use Rattle.std.specs.List.{Contains, count_by}
use Rattle.std.proofs.lemmas.Bool.{cases_eq, cases_lt}
use Rattle.std.proofs.lemmas.List.{get_or-set_same, get_or-set_other, get_or_append_left, get_or_push}
use Rattle.graph_rank.specs.Rows.{row, Leads}
use Rattle.graph_rank.specs.Rows.Leads.{step, through}
use Rattle.graph_rank.proofs.Marks.{stands_in, place_in}
use Rattle.graph_cycle.specs.declared.search.Mark.{Mark}
use Rattle.graph_cycle.specs.declared.search.Mark.TheVariants.{Fresh, Open, Closed}
use Rattle.graph_cycle.specs.Search.{fresh, closed, mark_at, NoLower, IsKnown, AreRising, left}

pub leads_on : (rows : List (List ℕ)) (a b c : ℕ) → Leads rows a b → Leads rows b c → Leads rows a c
leads_on rows a b c (step a1 b1 h) more = through a1 b1 c h more
leads_on rows a b c (through a1 m b1 h rest) more = through a1 m c h (leads_on rows m b1 c rest more)

-- numbers that rise are no greater than the last
module _ (bound : ℕ) (xs : List ℕ) (r : AreRising bound xs) where
  pub below_last : (last k : ℕ) → get_or xs (length xs - 1) 0 ≡ last → k < length xs → get_or xs k 0 ≤ last
  below_last last k is below = go (cases_lt k (length xs - 1))
    where
      go : (k < length xs - 1) ⊎ (length xs - 1 ≤ k) → get_or xs k 0 ≤ last
      go (inl before) =
          let less = r.rises k (length xs - 1) before (omega arith) in omega (arith, less, is)
      go (inr past) =
          let same : k ≡ length xs - 1 = omega arith in
          let here : get_or xs k 0 ≡ get_or xs (length xs - 1) 0 = ap (λ (i : ℕ). get_or xs i 0) same in omega (arith, here, is)

-- what is closed leads to what is closed
module _ (rows : List (List ℕ)) (marks : List Mark)
    (needs : (n d : ℕ) → closed (mark_at marks n) ≡ true → Contains (row rows n) d → closed (mark_at marks d) ≡ true) where
  pub closed_on : (a b : ℕ) → closed (mark_at marks a) ≡ true → Leads rows a b → closed (mark_at marks b) ≡ true
  closed_on a b here (step a1 b1 h) = needs a1 b1 here h
  closed_on a b here (through a1 m b1 h rest) = closed_on m b1 (needs a1 m here h) rest

-- one place less is left
pub left_less : (rows : List (List ℕ)) (next : List ℕ) (n : ℕ) → n < length rows → length next ≡ length rows
    → get_or next n 0 < length (row rows n) → left rows (set next n (get_or next n 0 + 1)) + 1 ≡ left rows next
left_less [] next n below same more = absurd (omega (arith, below))
left_less (r ∷ rows) [] n below same more = absurd (omega (arith, same))
left_less (r ∷ rows) (k ∷ next) zero below same more = omega (arith, more)
left_less (r ∷ rows) (k ∷ next) (suc n) below same more =
    let rest : left rows (set next n (get_or next n 0 + 1)) + 1 ≡ left rows next = left_less rows next n (omega (arith, below)) (omega (arith, same)) more in
    omega (arith, rest)

-- ## One item more

-- what holds of each item and of a new last one holds of all
pub each_push : (xs : List ℕ) (x : ℕ) (P : ℕ → ℕ → Type 0) → ((k : ℕ) → k < length xs → P k (get_or xs k 0)) → P (length xs) x
    → (k : ℕ) → k < length (xs ++ x ∷ []) → P k (get_or (xs ++ x ∷ []) k 0)
each_push xs x P old new k below = go (cases_lt k (length xs))
  where
    go : (k < length xs) ⊎ (length xs ≤ k) → P k (get_or (xs ++ x ∷ []) k 0)
    go (inl before) = subst (λ (v : ℕ). P k v) (sym (get_or_append_left xs (x ∷ []) 0 k before)) (old k before)
    go (inr past) =
        let longer = length-append xs (x ∷ []) in
        let last : length xs ≡ k = omega (arith, longer, below, past) in
        subst (λ (v : ℕ). P k v) (sym (get_or_push xs x 0 k last)) (subst (λ (i : ℕ). P i x) last new)

pub in_front : (xs : List ℕ) (x k : ℕ) → k < length xs → get_or (xs ++ x ∷ []) k 0 ≡ get_or xs k 0
in_front xs x k below = get_or_append_left xs (x ∷ []) 0 k below

pub longer : (xs : List ℕ) (x : ℕ) → length (xs ++ x ∷ []) ≡ length xs + 1
longer xs x = length-append xs (x ∷ [])

pub contains_front : (xs : List ℕ) (x n : ℕ) → Contains xs n → Contains (xs ++ x ∷ []) n
contains_front xs x n h =
    let at = place_in xs n h in
    subst (λ (v : ℕ). Contains (xs ++ x ∷ []) v) (in_front xs x at.0 at.1 ∙ at.2)
    (stands_in (xs ++ x ∷ []) at.0 (let e = longer xs x in let b = at.1 in omega (arith, e, b)))

pub contains_last : (xs : List ℕ) (x : ℕ) → Contains (xs ++ x ∷ []) x
contains_last xs x =
    subst (λ (v : ℕ). Contains (xs ++ x ∷ []) v) (get_or_push xs x 0 (length xs) refl)
    (stands_in (xs ++ x ∷ []) (length xs) (let e = longer xs x in omega (arith, e)))

-- a greater number at the end of numbers that rise
pub rising_push : (bound more x : ℕ) (xs : List ℕ) → AreRising bound xs → bound ≤ x → x < more → AreRising more (xs ++ x ∷ [])
rising_push bound more x xs r high low = record {
  low = each_push xs x (λ (k v : ℕ). v < more) (λ (k : ℕ) (b : k < length xs). let l = r.low k b in omega (arith, l, high, low)) low;
  rises = λ j k less below. each_push xs x (λ (k v : ℕ). j < k → get_or (xs ++ x ∷ []) j 0 < v)
      (λ (k : ℕ) (b : k < length xs) (l : j < k).
      let first : j < length xs = omega (arith, b, l) in
      subst (λ (v : ℕ). v < get_or xs k 0) (sym (in_front xs x j first)) (r.rises j k l b))
      (λ (l : j < length xs).
      let low = r.low j l in
      subst (λ (v : ℕ). v < x) (sym (in_front xs x j l)) (omega (arith, low, high)))
      k below less;
}

-- ## Groups with one bound more

pub push_no : (bounds : List ℕ) (x i j : ℕ) → NoLower bounds i j → (x ≤ i → x ≤ j) → NoLower (bounds ++ x ∷ []) i j
push_no bounds x i j h last = each_push bounds x (λ (k v : ℕ). v ≤ i → v ≤ j) h last

pub front_no : (bounds : List ℕ) (x i j : ℕ) → NoLower (bounds ++ x ∷ []) i j → NoLower bounds i j
front_no bounds x i j h = λ (k : ℕ) (below : k < length bounds).
    subst (λ (v : ℕ). v ≤ i → v ≤ j) (in_front bounds x k below)
    (h k (let e = longer bounds x in omega (arith, e, below)))

pub last_no : (bounds : List ℕ) (x i j : ℕ) → NoLower (bounds ++ x ∷ []) i j → x ≤ i → x ≤ j
last_no bounds x i j h =
    subst (λ (v : ℕ). v ≤ i → v ≤ j) (get_or_push bounds x 0 (length bounds) refl)
    (h (length bounds) (let e = longer bounds x in omega (arith, e)))

pub known_push : (bounds : List ℕ) (x i : ℕ) (m : Mark) → i < x → IsKnown bounds i m → IsKnown (bounds ++ x ∷ []) i m
known_push bounds x i Fresh less h = absurd h
known_push bounds x i (Open j) less h = push_no bounds x i j h (λ (high : x ≤ i). absurd (omega (arith, less, high)))
known_push bounds x i (Closed on) less h = tt

pub known_met : (bounds : List ℕ) (i : ℕ) (m : Mark) → IsKnown bounds i m → fresh m ≡ false
known_met bounds i Fresh h = absurd h
known_met bounds i (Open j) h = refl
known_met bounds i (Closed on) h = refl

pub closed_met : (m : Mark) → closed m ≡ true → fresh m ≡ false
closed_met Fresh h = cc
closed_met (Open j) h = refl
closed_met (Closed on) h = refl
