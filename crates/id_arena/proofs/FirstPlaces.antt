-- The first place of a list at which a test passes: through a map, at the end, and where the elements differ.
use Rattle.std.proofs.Common.{◌≡◌, ℕ, ◌+◌, ◌<◌, suc, Bool, true, false, not, ◌||◌, cond, ltb, List, [], ◌∷◌, ◌++◌, map, length, get_or, slice_get, Option, Some, None, position, refl, sym, ap, ◌∙◌, inl, inr, arith, length-append}
use Rattle.std.specs.List.{prefix_len, position_or_len, list_any}
use Rattle.std.specs.Str.{bytes_eq}
use Rattle.std.proofs.lemmas.Bool.{lt-ltb, eq-eqb, cond-true, cases_lt}
use Rattle.std.proofs.lemmas.List.{length-map}
use Rattle.std.proofs.lemmas.List.Sums.{prefix_len-le-length, position_or_len_is}
use Rattle.std.proofs.lemmas.List.Folds.{position_or_len_push}
use Rattle.std.proofs.lemmas.List.Quantifiers.{position-Some}
use Rattle.std.proofs.lemmas.Option.{slice_get-get_or}
use Rattle.std.proofs.lemmas.Slice.Eq.{bytes_eq-Decides}
use Rattle.id_arena.specs.Names.{place_among}

-- a place below a length
abbrev place_below : ℕ → ℕ → Option ℕ
place_below place len = cond (ltb place len) (Some place) None

module _ {X Y : Type 0} (f : X → Y) (test : Y → Bool) where
  prefix_len-map : (xs : List X) → prefix_len test (map f xs) ≡ prefix_len (λ x. test (f x)) xs
  prefix_len-map [] = refl
  prefix_len-map (x ∷ xs) = ap (λ n. cond (test (f x)) (1 + n) 0) (prefix_len-map xs)

-- a map may be read into the test
pub position-map : {X Y : Type 0} (f : X → Y) (test : Y → Bool) (xs : List X) → position test (map f xs) ≡ position (λ x. test (f x)) xs
position-map f test xs =
    let first = prefix_len-map f (λ y. not (test y)) xs in
    let len = length-map xs f in
    λ i. place_below (first i) (len i)

fails : (b r : Bool) (n m : ℕ) → cond (not b) (1 + n) 0 ≡ suc m → (n ≡ m → r ≡ false) → (b || r) ≡ false
fails true r n m e rest = absurd (omega arith)
fails false r n m e rest = rest (omega arith)

module _ {X : Type 0} (test : X → Bool) where
  -- where there is no first place, it is the length
  position-None : (xs : List X) → position test xs ≡ None → position_or_len test xs ≡ length xs
  position-None xs none =
      let n = position_or_len test xs in
      elim (cases_lt n (length xs)) [
        | inl within ↦
            let some : place_below n (length xs) ≡ Some n = cond-true _ _ _ (lt-ltb n (length xs) within) in
            let no : Some n ≡ None = sym some ∙ none in cc
        | inr past ↦ omega (arith, prefix_len-le-length (λ x. not (test x)) xs)
      ]

  none_passes : (xs : List X) → position_or_len test xs ≡ length xs → list_any test xs ≡ false
  none_passes [] e = refl
  none_passes (x ∷ xs) e = fails (test x) (list_any test xs) (position_or_len test xs) (length xs) e (none_passes xs)

  -- no element passes where there is no first place
  pub list_any-position : (xs : List X) → position test xs ≡ None → list_any test xs ≡ false
  list_any-position xs none = none_passes xs (position-None xs none)

  -- the first place, by what stands before it
  pub position-is : (xs : List X) (i : ℕ) (d : X) → i < length xs → ((k : ℕ) → k < i → test (get_or xs k d) ≡ false) → test (get_or xs i d) ≡ true → position test xs ≡ Some i
  position-is xs i d within before here =
      let first = position_or_len_is test xs i d (omega arith) before (λ _. here) in
      ap (λ n. place_below n (length xs)) first ∙ cond-true _ _ _ (lt-ltb i (length xs) within)

  -- an element that is put last stands there, where none before it passes
  pub position-last : (xs : List X) (x : X) → position test xs ≡ None → test x ≡ true → position test (xs ++ x ∷ []) ≡ Some (length xs)
  position-last xs x none passes =
      let n = length xs in
      let end = eq-eqb _ _ (position-None xs none) in
      let last : position_or_len test (xs ++ x ∷ []) ≡ n + cond (test x) 0 1 = position_or_len_push test xs x ∙ cond-true _ _ _ end in
      let first : position_or_len test (xs ++ x ∷ []) ≡ n = last ∙ ap (λ b. n + cond b 0 1) passes ∙ omega arith in
      let longer : n < length (xs ++ x ∷ []) = omega (arith, length-append xs (x ∷ [])) in
      ap (λ m. place_below m (length (xs ++ x ∷ []))) first ∙ cond-true _ _ _ (lt-ltb n _ longer)

-- the name at the place of a text is the text
pub place_among-Some : (names : List (List ℕ)) (text : List ℕ) (place : ℕ) → place_among names text ≡ Some place → slice_get names place ≡ Some text
place_among-Some names text place found =
    let first = position-Some (bytes_eq text) names place [] found in
    slice_get-get_or names place [] first.0 ∙ ap Some (sym ((bytes_eq-Decides text (get_or names place [])).0 first.1))

-- a text that is put last is found there, where it is new
pub place_among-last : (names : List (List ℕ)) (text : List ℕ) → place_among names text ≡ None → place_among (names ++ text ∷ []) text ≡ Some (length names)
place_among-last names text new = position-last (bytes_eq text) names text new ((bytes_eq-Decides text text).1 refl)
