-- The head of an item, after a change of the lists.
use Rattle.std.proofs.Common.{◌≡◌, ℕ, zero, suc, ◌+◌, ◌<◌, Bool, true, false, if◌then◌else◌, List, [], ◌∷◌, map, Option, Some, None, replicate, length, set, refl, sym, ap, ◌∙◌, subst, arith}
use Rattle.std.specs.Option.{option_map}
use Rattle.link_rows.specs.Rows.{row, has, home, without, with_more}
use Rattle.link_rows.proofs.HeadLists.{has-without_same, has-without_other, without-absent}

-- what is counted one further is some number and one
lifted : (o : Option ℕ) (n : ℕ) → option_map (λ m. m + 1) o ≡ Some n → (m : ℕ) × (o ≡ Some m) × (n ≡ suc m)
lifted None n e = absurd (let no : None ≡ Some n = e in cc)
lifted (Some m) n e = (m, refl, (let same : Some (m + 1) ≡ Some n = e in let e2 : m + 1 ≡ n = cc in omega (arith, e2)))

lifted_None : (o : Option ℕ) → option_map (λ m. m + 1) o ≡ None → o ≡ None
lifted_None None e = refl
lifted_None (Some m) e = absurd (let no : Some (m + 1) ≡ None = e in cc)

module _ (k : ℕ) where
  -- an item is in the list of its head
  pub has-home : (lists : List (List ℕ)) (head : ℕ) → home k lists ≡ Some head → has k (row lists head) ≡ true
  has-home [] head e = absurd (let no : None ≡ Some head = e in cc)
  has-home (xs ∷ lists) head e = go (has k xs) refl e (has-home lists)
    where
      go : (b : Bool) → has k xs ≡ b → (if b then Some 0 else option_map (λ n. n + 1) (home k lists)) ≡ Some head → ((h : ℕ) → home k lists ≡ Some h → has k (row lists h) ≡ true) → has k (row (xs ∷ lists) head) ≡ true
      go true here at rest =
          let zero_at : Some 0 ≡ Some head = at in
          let same : 0 ≡ head = cc in
          subst (λ h. has k (row (xs ∷ lists) h) ≡ true) same here
      go false absent at rest =
          let l = lifted (home k lists) head at in
          subst (λ h. has k (row (xs ∷ lists) h) ≡ true) (sym l.2) (rest l.0 l.1)

  -- an item without a head is in no list
  pub has-None : (lists : List (List ℕ)) (head : ℕ) → home k lists ≡ None → has k (row lists head) ≡ false
  has-None [] head e = refl
  has-None (xs ∷ lists) head e = go (has k xs) refl e head (has-None lists)
    where
      go : (b : Bool) → has k xs ≡ b → (if b then Some 0 else option_map (λ n. n + 1) (home k lists)) ≡ None → (h : ℕ) → ((n : ℕ) → home k lists ≡ None → has k (row lists n) ≡ false) → has k (row (xs ∷ lists) h) ≡ false
      go true here at h rest = absurd (let no : Some 0 ≡ None = at in cc)
      go false absent at zero rest = absent
      go false absent at (suc n) rest = rest n (lifted_None (home k lists) at)

  -- another list in a row's place that has the item just where the row had it
  pub home-set : (lists : List (List ℕ)) (head : ℕ) (ys : List ℕ) → has k ys ≡ has k (row lists head) → home k (set lists head ys) ≡ home k lists
  home-set [] head ys same = refl
  home-set (xs ∷ lists) zero ys same = ap (λ b. if b then Some 0 else option_map (λ n. n + 1) (home k lists)) same
  home-set (xs ∷ lists) (suc n) ys same = ap (λ o. if has k xs then Some 0 else option_map (λ m. m + 1) o) (home-set lists n ys same)

  -- an item without a head that is put into a list
  pub home-put : (lists : List (List ℕ)) (head : ℕ) (ys : List ℕ) → home k lists ≡ None → head < length lists → has k ys ≡ true → home k (set lists head ys) ≡ Some head
  home-put [] head ys none within here = absurd (omega arith)
  home-put (xs ∷ lists) zero ys none within here = ap (λ b. if b then Some 0 else option_map (λ n. n + 1) (home k lists)) here
  home-put (xs ∷ lists) (suc n) ys none within here =
      let absent : has k xs ≡ false = has-None (xs ∷ lists) zero none in
      let rest_none : option_map (λ m. m + 1) (home k lists) ≡ None = sym (ap (λ b. if b then Some 0 else option_map (λ m. m + 1) (home k lists)) absent) ∙ none in
      let rest = home-put lists n ys (lifted_None (home k lists) rest_none) (omega arith) here in
      ap (λ b. if b then Some 0 else option_map (λ m. m + 1) (home k (set lists n ys))) absent
      ∙ ap (option_map (λ m. m + 1)) rest
      ∙ ap Some (omega arith)

  -- the item is taken out
  pub home-without_same : (lists : List (List ℕ)) → home k (map (without k) lists) ≡ None
  home-without_same [] = refl
  home-without_same (xs ∷ lists) =
      ap (λ b. if b then Some 0 else option_map (λ m. m + 1) (home k (map (without k) lists))) (has-without_same k xs)
      ∙ ap (option_map (λ m. m + 1)) (home-without_same lists)

  -- another item is taken out
  pub home-without_other : (i : ℕ) (lists : List (List ℕ)) → (k ≡ i → ⊥) → home k (map (without i) lists) ≡ home k lists
  home-without_other i [] other = refl
  home-without_other i (xs ∷ lists) other =
      let rest = home-without_other i lists other in
      let here = has-without_other i k xs other in
      λ j. if here j then Some 0 else option_map (λ m. m + 1) (rest j)

  -- an item that is in no list leaves them all
  pub map-without_absent : (lists : List (List ℕ)) → home k lists ≡ None → map (without k) lists ≡ lists
  map-without_absent [] none = refl
  map-without_absent (xs ∷ lists) none =
      let absent : has k xs ≡ false = has-None (xs ∷ lists) zero none in
      let rest_none : option_map (λ m. m + 1) (home k lists) ≡ None = sym (ap (λ b. if b then Some 0 else option_map (λ m. m + 1) (home k lists)) absent) ∙ none in
      let here = without-absent k xs absent in
      let rest = map-without_absent lists (lifted_None (home k lists) rest_none) in
      λ j. here j ∷ rest j

  -- empty lists have no items
  home-empty : (more : ℕ) → home k (replicate more []) ≡ None
  home-empty zero = refl
  home-empty (suc more) = ap (option_map (λ m. m + 1)) (home-empty more)

  pub home-with_more : (lists : List (List ℕ)) (more : ℕ) → home k (with_more lists more) ≡ home k lists
  home-with_more [] more = home-empty more
  home-with_more (xs ∷ lists) more = ap (λ o. if has k xs then Some 0 else option_map (λ m. m + 1) o) (home-with_more lists more)
