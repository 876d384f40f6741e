-- The marks of places, and whether a place stands at an earlier place.
use Rattle.std.proofs.Common.{◌≡◌, ℕ, zero, suc, ◌+◌, ◌<◌, ◌≤◌, arith, Bool, true, false, ◌||◌, List, [], ◌∷◌, ◌++◌, get_or, set, take, drop, length, refl, subst, sym, ap, ◌∙◌}
use Rattle.std.specs.Prelude.{◌==◌, nat_lt, is_none, Option, Some, None, slice_get, option_to_list, flat_map}
use Rattle.std.specs.List.{list_any, enumerate_from}
use Rattle.std.proofs.lemmas.Bool.Decides.{nat_tests}
use Rattle.std.proofs.lemmas.List.{length-set, take_all, take_more, drop_all}
use Rattle.std.proofs.lemmas.List.FromFn.{length-enumerate_from}
use Rattle.std.proofs.lemmas.Option.{none-some, same_Some, get_or_from_slice_get, slice_get_within}
use Rattle.facts.proofs.Tests.{no}
use Rattle.design_core.specs.declared.parts.Port.{Port}
use Rattle.domain_groups.specs.Judged.{has_place, some_earlier, some_unknown, ports_named}
use Rattle.domain_groups.specs.Judging.{Marks}
use Rattle.domain_groups.specs.Ports.{port_named}
use Rattle.domain_groups.proofs.TableBits.{any_push, set_one}

-- a place more is marked
marks_more : (marks : List Bool) (seen : List ℕ) (place : ℕ) → Marks marks seen → place < length marks → Marks (set marks place true) (seen ++ place ∷ [])
marks_more marks seen place m there q low =
    let long : q < length marks = subst (λ (n : ℕ). q < n) (length-set marks place true) low in
    set_one marks place there q
    ∙ ap (λ b. b || (place == q)) (m q long)
    ∙ sym (any_push (λ (other : ℕ). other == q) seen place)

-- the test of the elements of a list with their places, one by one
next_place : {X : Type 0} (test : ℕ × X → Bool) (n : ℕ) (xs : List X) (i k : ℕ) (x : X) → slice_get xs i ≡ Some x → n + i ≡ k
    → list_any test (drop i (enumerate_from n xs)) ≡ (test (k, x) || list_any test (drop (suc i) (enumerate_from n xs)))
next_place test n [] i k x at is = absurd (none-some x at)
next_place {X} test n (y ∷ ys) zero k x at is =
    let first : n ≡ k = omega arith in
    ap (λ (z : X). test (n, z) || list_any test (enumerate_from (n + 1) ys)) (same_Some y x at)
    ∙ ap (λ (m : ℕ). test (m, x) || list_any test (enumerate_from (n + 1) ys)) first
next_place test n (y ∷ ys) (suc i) k x at is =
    let more : (n + 1) + i ≡ k = omega arith in
    next_place test (n + 1) ys i k x at more

-- whether a place stands at an earlier one, with some places before
abbrev stands_before : List ℕ → List ℕ → ℕ × ℕ → Bool
stands_before before places (k, place) = has_place (before ++ take k places) place

-- what is left of the test after the first places, so many
abbrev pub left_earlier : List ℕ → List ℕ → ℕ → Bool
left_earlier before places i = list_any (stands_before before places) (drop i (enumerate_from 0 places))

-- what holds while the first places, so many, are marked and none of them stood at an earlier one
pub record Marking (first now : List Bool) (places : List ℕ) (count : ℕ) : Type 0 where
  pub size : length now ≡ length first
  pub marked : (before : List ℕ) → Marks first before → Marks now (before ++ take count places)
  pub rest : (before : List ℕ) → Marks first before → some_earlier before places ≡ left_earlier before places count

pub begin_marking : (first : List Bool) (places : List ℕ) → Marking first first places 0
begin_marking first places = record {
  size = refl;
  marked = λ before m. subst (Marks first) (sym (append_none before)) m;
  rest = λ before m. refl;
}
  where
    append_none : (xs : List ℕ) → xs ++ [] ≡ xs
    append_none [] = refl
    append_none (x ∷ xs) = ap (λ rest. x ∷ rest) (append_none xs)

module _ (first now : List Bool) (places : List ℕ) (count place : ℕ) (m : Marking first now places count) (at : slice_get places count ≡ Some place) (there : place < length now) where
  step : (before : List ℕ) → Marks first before → left_earlier before places count ≡ (get_or now place false || left_earlier before places (count + 1))
  step before marks =
      let here : get_or now place false ≡ has_place (before ++ take count places) place = m.marked before marks place there in
      let more : suc count ≡ count + 1 = omega arith in
      next_place (stands_before before places) 0 places count count place at (let same : 0 + count ≡ count = omega arith in same)
      ∙ ap (λ b. b || left_earlier before places (suc count)) (sym here)
      ∙ ap (λ (n : ℕ). get_or now place false || left_earlier before places n) more

  -- the next place was marked
  pub found_earlier : get_or now place false ≡ true → (before : List ℕ) → Marks first before → true ≡ some_earlier before places
  found_earlier e before marks = sym (m.rest before marks ∙ step before marks ∙ ap (λ b. b || left_earlier before places (count + 1)) e)

  -- it was not
  pub mark_next : (new : List Bool) → get_or now place false ≡ false → new ≡ set now place true → Marking first new places (count + 1)
  mark_next new e is = rw is (record {
    size = length-set now place true ∙ m.size;
    marked = λ before marks.
        let longer : take (count + 1) places ≡ take count places ++ place ∷ [] =
        take_more places count place (slice_get_within places count place at) ∙ ap (λ p. take count places ++ p ∷ []) (get_or_from_slice_get places count place place at) in
        subst (Marks (set now place true)) (joined before (take count places) place ∙ ap (λ xs. before ++ xs) (sym longer))
        (marks_more now (before ++ take count places) place (m.marked before marks) there);
    rest = λ before marks. m.rest before marks ∙ step before marks ∙ ap (λ b. b || left_earlier before places (count + 1)) e;
  })
    where
      joined : (xs ys : List ℕ) (z : ℕ) → (xs ++ ys) ++ z ∷ [] ≡ xs ++ (ys ++ z ∷ [])
      joined [] ys z = refl
      joined (x ∷ xs) ys z = ap (λ rest. x ∷ rest) (joined xs ys z)

-- all places are marked
module _ (first now : List Bool) (places : List ℕ) (count : ℕ) (m : Marking first now places count) (all : length places ≤ count) where
  none_left : {X : Type 0} (i n : ℕ) (xs : List X) → length xs ≤ i → drop i (enumerate_from n xs) ≡ []
  none_left zero n [] few = refl
  none_left (suc i) n [] few = refl
  none_left zero n (x ∷ xs) few = absurd (omega arith)
  none_left (suc i) n (x ∷ xs) few = let less : length xs ≤ i = omega arith in none_left i (n + 1) xs less

  pub found_none : (before : List ℕ) → Marks first before → false ≡ some_earlier before places
  found_none before marks = sym (m.rest before marks ∙ ap (list_any (stands_before before places)) (none_left count 0 places all))

  pub all_marked : (before : List ℕ) → Marks first before → Marks now (before ++ places)
  all_marked before marks = subst (λ xs. Marks now (before ++ xs)) (take_all count places all) (m.marked before marks)

-- names of which one leads to no port lead to fewer places than they are
named_few : (ports : List Port) (names : List (List ℕ)) → length (ports_named ports names) ≤ length names
named_few ports [] = omega arith
named_few ports (name ∷ names) = go (port_named ports name) (named_few ports names)
  where
    go : (o : Option ℕ) → length (ports_named ports names) ≤ length names → length (option_to_list o ++ ports_named ports names) ≤ suc (length names)
    go None few = omega arith
    go (Some place) few = omega arith

pub unknown_is : (ports : List Port) (names : List (List ℕ)) → nat_lt (length (ports_named ports names)) (length names) ≡ some_unknown ports names
unknown_is ports [] = refl
unknown_is ports (name ∷ names) = go (port_named ports name) (unknown_is ports names)
  where
    both : (a b : ℕ) → nat_lt (suc a) (suc b) ≡ nat_lt a b
    both a b = grind (arith, nat_tests)

    go : (o : Option ℕ) → nat_lt (length (ports_named ports names)) (length names) ≡ some_unknown ports names
        → nat_lt (length (option_to_list o ++ ports_named ports names)) (suc (length names)) ≡ (is_none o || some_unknown ports names)
    go None deep = let few = named_few ports names in grind (arith, nat_tests)
    go (Some place) deep = both (length (ports_named ports names)) (length names) ∙ deep
