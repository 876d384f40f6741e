-- Rows that are cut from one list of items, and a row more.
use Rattle.std.proofs.Common.{◌≡◌, ◌<◌, ◌≤◌, ◌+◌, ◌-◌, ℕ, zero, suc, List, [], ◌∷◌, ◌++◌, length, get_or, drop, ◌⊎◌, inl, inr, refl, ap, sym, ◌∙◌, subst, arith, length-append, length-drop}
use Rattle.std.specs.List.{slice_range}
use Rattle.std.proofs.lemmas.Bool.{cases_lt}
use Rattle.std.proofs.lemmas.List.{drop-append-le, take-append-le, drop_at, take_all, get_or_append_left, get_or_push}
use Rattle.graph_rank.specs.Stored.{cut_rows, start_of, IsStored}

pub cut-length : (items : List ℕ) (start : ℕ) (ends : List ℕ) → length (cut_rows items start ends) ≡ length ends
cut-length items start [] = refl
cut-length items start (e ∷ ends) = ap suc (cut-length items e ends)

start_next : (start e : ℕ) (ends : List ℕ) (k : ℕ) → start_of e ends k ≡ start_of start (e ∷ ends) (suc k)
start_next start e ends zero = refl
start_next start e ends (suc k) = refl

pub cut-row : (items : List ℕ) (start : ℕ) (ends : List ℕ) (k : ℕ) → k < length ends
    → get_or (cut_rows items start ends) k [] ≡ slice_range items (start_of start ends k) (get_or ends k 0)
cut-row items start [] k below = absurd (omega arith)
cut-row items start (e ∷ ends) zero below = refl
cut-row items start (e ∷ ends) (suc k) below =
    let within : k < length ends = omega arith in
    cut-row items e ends k within ∙ ap (λ s. slice_range items s (get_or ends k 0)) (start_next start e ends k)

range-grow : (items more : List ℕ) (s e : ℕ) → s ≤ e → e ≤ length items → slice_range (items ++ more) s e ≡ slice_range items s e
range-grow items more s e rises within =
    let first : s ≤ length items = omega arith in
    let last : e - s ≤ length (drop s items) = omega (arith, length-drop s items) in
    rw (drop-append-le s items more first, take-append-le (e - s) (drop s items) more last) refl

pub cut-grow : (items more : List ℕ) (start : ℕ) (ends : List ℕ)
    → ((k : ℕ) → k < length ends → start_of start ends k ≤ get_or ends k 0)
    → ((k : ℕ) → k < length ends → get_or ends k 0 ≤ length items)
    → cut_rows (items ++ more) start ends ≡ cut_rows items start ends
cut-grow items more start [] rises within = refl
cut-grow items more start (e ∷ ends) rises within =
    let rises-2 = λ (k : ℕ) (below : k < length ends). subst (λ (s : ℕ). s ≤ get_or ends k 0) (sym (start_next start e ends k)) (rises (suc k) (omega arith)) in
    let within-2 = λ (k : ℕ) (below : k < length ends). within (suc k) (omega arith) in
    let one = range-grow items more start e (rises 0 (omega arith)) (within 0 (omega arith)) in
    let rest = cut-grow items more e ends rises-2 within-2 in
    rw (one, rest) refl

pub cut-push : (items : List ℕ) (start : ℕ) (ends : List ℕ) (e : ℕ)
    → cut_rows items start (ends ++ e ∷ []) ≡ cut_rows items start ends ++ slice_range items (start_of start ends (length ends)) e ∷ []
cut-push items start [] e = refl
cut-push items start (f ∷ ends) e =
    ap (λ rows. slice_range items start f ∷ rows)
    (cut-push items f ends e ∙ ap (λ s. cut_rows items f ends ++ slice_range items s e ∷ []) (start_next start f ends (length ends)))

-- where rows begin is the same after one more end
start_kept : (ends : List ℕ) (e k : ℕ) → k ≤ length ends → start_of 0 (ends ++ e ∷ []) k ≡ start_of 0 ends k
start_kept ends e zero below = refl
start_kept ends e (suc k) below =
    let within : k < length ends = omega arith in get_or_append_left ends (e ∷ []) 0 k within

last_start : (ends : List ℕ) (e n : ℕ) → n ≡ length ends → start_of 0 (ends ++ e ∷ []) (n + 1) ≡ e
last_start ends e n same =
    let s : n + 1 ≡ suc n = omega arith in
    rw s (get_or_push ends e 0 n (sym same))

pub added-rows : (items ends needs : List ℕ) → IsStored items ends
    → cut_rows (items ++ needs) 0 (ends ++ length (items ++ needs) ∷ []) ≡ cut_rows items 0 ends ++ needs ∷ []
added-rows items ends needs s =
    let all : length (items ++ needs) - length items ≡ length needs = omega (arith, length-append items needs) in
    let tail : slice_range (items ++ needs) (length items) (length (items ++ needs)) ≡ needs =
    rw (drop_at items needs (length items) refl, all) (take_all (length needs) needs (omega arith)) in
    cut-push (items ++ needs) 0 ends (length (items ++ needs))
    ∙ rw (cut-grow items needs 0 ends s.rises s.within, s.full, tail) refl

-- one end more, which is no less than the ones before
module _ (items ends needs : List ℕ) (s : IsStored items ends) (end : ℕ) (grown : end ≡ length (items ++ needs)) where
  longer : length items ≤ end
  longer = omega (arith, length-append items needs)

  rises-more : (k : ℕ) → k < length (ends ++ end ∷ []) → start_of 0 (ends ++ end ∷ []) k ≤ get_or (ends ++ end ∷ []) k 0
  rises-more k below = go (cases_lt k (length ends))
    where
      go : (k < length ends) ⊎ (length ends ≤ k) → start_of 0 (ends ++ end ∷ []) k ≤ get_or (ends ++ end ∷ []) k 0
      go (inl before) =
          let old = s.rises k before in
          let start = start_kept ends end k (omega arith) in
          let here = get_or_append_left ends (end ∷ []) 0 k before in
          omega arith
      go (inr past) =
          let last : length ends ≡ k = omega (arith, length-append ends (end ∷ [])) in
          let start = start_kept ends end k (omega arith) in
          let here = get_or_push ends end 0 k last in
          let full : start_of 0 ends k ≡ length items = subst (λ (i : ℕ). start_of 0 ends i ≡ length items) last s.full in
          let long = longer in
          omega arith

  within-more : (k : ℕ) → k < length (ends ++ end ∷ []) → get_or (ends ++ end ∷ []) k 0 ≤ length (items ++ needs)
  within-more k below = go (cases_lt k (length ends))
    where
      go : (k < length ends) ⊎ (length ends ≤ k) → get_or (ends ++ end ∷ []) k 0 ≤ length (items ++ needs)
      go (inl before) =
          let old = s.within k before in
          let here = get_or_append_left ends (end ∷ []) 0 k before in
          let long = longer in
          omega arith
      go (inr past) =
          let last : length ends ≡ k = omega (arith, length-append ends (end ∷ [])) in
          let here = get_or_push ends end 0 k last in
          omega arith

  pub added-stored : length ends < 4294967295 → IsStored (items ++ needs) (ends ++ end ∷ [])
  added-stored room = record {
    count = omega (arith, length-append ends (end ∷ []));
    rises = rises-more;
    within = within-more;
    full = rw (length-append ends (end ∷ [])) (last_start ends end (length ends) refl ∙ grown);
  }

-- the same by what the code names
module _ (items ends needs more ends-2 : List ℕ) (s : IsStored items ends) (room : length ends < 4294967295) (added : more ≡ items ++ needs) (pushed : ends-2 ≡ ends ++ length more ∷ []) where
  pub stored_more : IsStored more ends-2
  stored_more = rw (pushed, added) (added-stored items ends needs s (length (items ++ needs)) refl room)

  pub rows_more : cut_rows more 0 ends-2 ≡ cut_rows items 0 ends ++ needs ∷ []
  rows_more = rw (pushed, added) (added-rows items ends needs s)

pub row_is : (items ends : List ℕ) (k : ℕ) → k < length ends → slice_range items (start_of 0 ends k) (get_or ends k 0) ≡ get_or (cut_rows items 0 ends) k []
row_is items ends k below = sym (cut-row items 0 ends k below)
