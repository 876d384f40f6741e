-- A list is moved before another, from its end on.
use Rattle.std.proofs.Common.{◌≡◌, ℕ, ◌<◌, true, false, List, [], ◌∷◌, ◌++◌, Option, Some, None, IsSome, is_some, map, length, set, refl, sym, ap, ◌∙◌, subst, inl, inr, arith, append_assoc, length-append}
use Rattle.std.specs.Option.{option_map, option_and_then}
use Rattle.std.proofs.Math.ListN.{get_or-map}
use Rattle.std.proofs.lemmas.Bool.{cases_eq, false_from_ne_true}
use Rattle.std.proofs.lemmas.List.{get_or-set_same, get_or-set_other, get_or_default, length-set, length-map, set-get_or, same_lists}
use Rattle.link_rows.specs.Rows.{Linked, row, has, home, last_or, before, prev_in, without, moved_all, IsApart, AreApart}
use Rattle.link_rows.proofs.HeadLists.{without-absent}
use Rattle.link_rows.proofs.Homes.{home-without_same}
use Rattle.link_rows.proofs.Lasts.{split_last, has-end, without-end, before-end, has-last}

-- the rest is still to be moved, from its last item on
pub record Moves (initial now : Linked) (from to : ℕ) (at : Option ℕ) : Type 0 where
  pub heads : length now.lists ≡ length initial.lists
  pub items : now.items ≡ initial.items
  pub apart : AreApart now
  pub last : at ≡ last_or None (row now.lists from)
  pub moved : moved_all now.lists from to ≡ moved_all initial.lists from to

pub moves-start : (initial : Linked) (from to : ℕ) (at : Option ℕ) → AreApart initial → at ≡ last_or None (row initial.lists from) → Moves initial initial from to at
moves-start initial from to at apart last = record { heads = refl; items = refl; apart = apart; last = last; moved = refl }

-- an empty list has been moved
moved_all-empty : (lists : List (List ℕ)) (from to : ℕ) → row lists from ≡ [] → (from ≡ to → ⊥) → moved_all lists from to ≡ lists
moved_all-empty lists from to empty differ =
    let joined : set lists to (row lists from ++ row lists to) ≡ lists = ap (λ xs. set lists to (xs ++ row lists to)) empty ∙ set-get_or lists to [] in
    ap (λ ls. set ls from []) joined ∙ ap (set lists from) (sym empty) ∙ set-get_or lists from []

pub moves-end : (initial now : Linked) (from to : ℕ) (at : Option ℕ) → Moves initial now from to at → at ≡ None → (from ≡ to → ⊥) → now ≡ record { lists = moved_all initial.lists from to; items = initial.items }
moves-end initial now from to at moves none differ =
    let empty = last_none None (row now.lists from) (sym moves.last ∙ none) in
    let lists = sym (moved_all-empty now.lists from to empty differ) ∙ moves.moved in
    λ j. record { lists = lists j; items = moves.items j }
  where
    some_last : (x : ℕ) (xs : List ℕ) → last_or (Some x) xs ≡ None → ⊥
    some_last x [] e = (let no : Some x ≡ None = e in cc)
    some_last x (y ∷ ys) e = some_last y ys e

    last_none : (prev : Option ℕ) (xs : List ℕ) → last_or prev xs ≡ None → xs ≡ []
    last_none prev [] e = refl
    last_none prev (x ∷ xs) e = absurd (some_last x xs e)

-- one item more: it goes from the end of one list to the front of the other
module _ (lists : List (List ℕ)) (items from to i : ℕ) (apart : AreApart (record { lists = lists; items = items })) (differ : from ≡ to → ⊥)
    (in_from : from < length lists) (in_to : to < length lists) (last : last_or None (row lists from) ≡ Some i) where
  abbrev taken : List (List ℕ)
  taken = map (without i) lists

  abbrev after : List (List ℕ)
  after = set taken to (i ∷ row taken to)

  -- the list without its last item
  others : (ys : List ℕ) × (row lists from ≡ ys ++ i ∷ [])
  others =
      elim (split_last None i (row lists from) last) [
        | inl end ↦ absurd (let no : None ≡ Some i = end.0 in cc)
        | inr more ↦ more
      ]

  apart_from : IsApart (others.0 ++ i ∷ [])
  apart_from = subst IsApart others.1 (apart.each from)

  absent : has i others.0 ≡ false
  absent = has-end i others.0 apart_from

  pub last-has : has i (row lists from) ≡ true
  last-has = subst (λ xs. has i xs ≡ true) (sym others.1) (has-last i others.0)

  pub last-home : home i lists ≡ Some from
  last-home = apart.one from i last-has

  pub last-item : i < items
  last-item = apart.within from i last-has

  -- what is before it is the last of the others
  prev-others : prev_in lists i ≡ last_or None others.0
  prev-others =
      ap (option_and_then (λ head. before None i (row lists head))) last-home
      ∙ ap (before None i) others.1
      ∙ before-end i None others.0 absent

  row-taken_from : row taken from ≡ others.0
  row-taken_from = get_or-map (without i) lists from [] ∙ ap (without i) others.1 ∙ without-end i others.0 absent

  row-taken_other : (h : ℕ) → (h ≡ from → ⊥) → row taken h ≡ row lists h
  row-taken_other h other =
      let absent_here = false_from_ne_true (has i (row lists h)) (λ here.
      other (let both : Some h ≡ Some from = sym (apart.one h i here) ∙ last-home in cc)) in
      get_or-map (without i) lists h [] ∙ without-absent i (row lists h) absent_here

  to_in_taken : to < length taken
  to_in_taken = subst (λ n. to < n) (sym (length-map lists (without i))) in_to

  length-after : length after ≡ length lists
  length-after = length-set taken to (i ∷ row taken to) ∙ length-map lists (without i)

  row-after_from : row after from ≡ others.0
  row-after_from = get_or-set_other taken to from (i ∷ row taken to) [] differ ∙ row-taken_from

  row-after_to : row after to ≡ i ∷ row lists to
  row-after_to =
      get_or-set_same taken to (i ∷ row taken to) [] to_in_taken
      ∙ ap {B = List ℕ} (λ xs. i ∷ xs) (row-taken_other to (λ same. differ (sym same)))

  row-after_other : (h : ℕ) → (h ≡ from → ⊥) → (h ≡ to → ⊥) → row after h ≡ row lists h
  row-after_other h not_from not_to =
      get_or-set_other taken to h (i ∷ row taken to) [] not_to ∙ row-taken_other h not_from

  -- the joined list is the same
  joined : row after from ++ row after to ≡ row lists from ++ row lists to
  joined =
      (λ j. row-after_from j ++ row-after_to j)
      ∙ sym (append_assoc others.0 (i ∷ []) (row lists to))
      ∙ ap (λ xs. xs ++ row lists to) (sym others.1)

  -- and so are all
  moved_all-after : moved_all after from to ≡ moved_all lists from to
  moved_all-after =
      let now = set after to (row after from ++ row after to) in
      let old = set lists to (row lists from ++ row lists to) in
      let now_length : length now ≡ length lists = length-set after to _ ∙ length-after in
      let old_length : length old ≡ length lists = length-set lists to _ in
      same_lists (set now from []) (set old from []) (length-set now from [] ∙ now_length ∙ sym (old_length) ∙ sym (length-set old from [])) (λ k d within.
      let inside : k < length lists = omega (arith, length-set now from [], now_length) in
      get_or_default (set now from []) k d [] within
      ∙ at_place now old k now_length old_length (λ other. by_row k other)
      ∙ get_or_default (set old from []) k [] d (omega (arith, length-set old from [], old_length)))
    where
      at_place : (now old : List (List ℕ)) (k : ℕ) → length now ≡ length lists → length old ≡ length lists → ((k ≡ from → ⊥) → row now k ≡ row old k) → row (set now from []) k ≡ row (set old from []) k
      at_place now old k now_length old_length same =
          elim (cases_eq k from) [
            | inl here ↦
                subst (λ n. row (set now from []) n ≡ row (set old from []) n) (sym here)
                (get_or-set_same now from [] [] (subst (λ n. from < n) (sym now_length) in_from) ∙ sym (get_or-set_same old from [] [] (subst (λ n. from < n) (sym old_length) in_from)))
            | inr other ↦ get_or-set_other now from k [] [] other ∙ same other ∙ sym (get_or-set_other old from k [] [] other)
          ]

      by_row : (k : ℕ) → (k ≡ from → ⊥) → row (set after to (row after from ++ row after to)) k ≡ row (set lists to (row lists from ++ row lists to)) k
      by_row k other =
          elim (cases_eq k to) [
            | inl here ↦
                subst (λ n. row (set after to (row after from ++ row after to)) n ≡ row (set lists to (row lists from ++ row lists to)) n) (sym here)
                (get_or-set_same after to _ [] (subst (λ n. to < n) (sym length-after) in_to) ∙ joined ∙ sym (get_or-set_same lists to _ [] in_to))
            | inr not_to ↦
                get_or-set_other after to k _ [] not_to ∙ row-after_other k other not_to ∙ sym (get_or-set_other lists to k _ [] not_to)
          ]

  -- the list is shorter
  pub row-after_shorter : length (row after from) < length (row lists from)
  row-after_shorter = omega (arith, ap length row-after_from, ap length others.1, length-append others.0 (i ∷ []))

  pub moves-step : (initial next : Linked) (at at' : Option ℕ) → Moves initial (record { lists = lists; items = items }) from to at → next ≡ record { lists = after; items = items } → AreApart next → at' ≡ prev_in lists i
      → Moves initial next from to at'
  moves-step initial next at at' moves is apart_next prev = record {
    heads = ap (λ r. length r.lists) is ∙ length-after ∙ moves.heads;
    items = ap (λ r. r.items) is ∙ moves.items;
    apart = apart_next;
    last = prev ∙ prev-others ∙ ap (last_or None) (sym row-after_from) ∙ ap (λ r. last_or None (row r.lists from)) (sym is);
    moved = ap (λ r. moved_all r.lists from to) is ∙ moved_all-after ∙ moves.moved;
  }

-- the loop's step, while there is an item to move
module _ (initial now : Linked) (from to i : ℕ) (at : Option ℕ) (moves : Moves initial now from to at) (is : at ≡ Some i) (differ : from ≡ to → ⊥)
    (in_from : from < length initial.lists) (in_to : to < length initial.lists) where
  from_now : from < length now.lists
  from_now = subst (λ n. from < n) (sym moves.heads) in_from

  to_now : to < length now.lists
  to_now = subst (λ n. to < n) (sym moves.heads) in_to

  last_is : last_or None (row now.lists from) ≡ Some i
  last_is = sym moves.last ∙ is

  pub moving-linked : IsSome (home i now.lists)
  moving-linked = ap is_some (last-home now.lists now.items from to i moves.apart differ from_now to_now last_is)

  pub moving-item : i < now.items
  moving-item = last-item now.lists now.items from to i moves.apart differ from_now to_now last_is

  -- what the two calls leave
  abbrev pub moved_one : Linked → Linked
  moved_one r = record { lists = set r.lists to (i ∷ row r.lists to); items = r.items }

  abbrev pub taken_out : Linked
  taken_out = record { lists = map (without i) now.lists; items = now.items }

  pub moving-next : (out next : Linked) (at' : Option ℕ) → out ≡ taken_out → next ≡ moved_one out → AreApart next → at' ≡ prev_in now.lists i → Moves initial next from to at'
  moving-next out next at' e1 e2 apart_next prev =
      moves-step now.lists now.items from to i moves.apart differ from_now to_now last_is initial next at at' moves (e2 ∙ ap moved_one e1) apart_next prev

  pub moving-shorter : (out next : Linked) → out ≡ taken_out → next ≡ moved_one out → length (row next.lists from) < length (row now.lists from)
  moving-shorter out next e1 e2 =
      let shorter = row-after_shorter now.lists now.items from to i moves.apart differ from_now to_now last_is in
      subst (λ r. length (row r.lists from) < length (row now.lists from)) (sym (e2 ∙ ap moved_one e1)) shorter

  pub moving-unlinked : (out : Linked) → out ≡ taken_out → home i out.lists ≡ None
  moving-unlinked out e1 = ap (λ r. home i r.lists) e1 ∙ home-without_same i now.lists

  pub moving-room : (out : Linked) → out ≡ taken_out → i < out.items
  moving-room out e1 = subst (λ r. i < r.items) (sym e1) moving-item

-- a key's place, of a key that a place may give
pub placed : {K : Type 0} (place_of : K → ℕ) (key_of : ℕ → K) → ((k : ℕ) → place_of (key_of k) ≡ k) → (o : Option ℕ) → option_map place_of (option_map key_of o) ≡ o
placed place_of key_of law None = refl
placed place_of key_of law (Some k) = ap Some (law k)
