-- Numbers in order: what passes a test among them, and how many do.
use Rattle.std.proofs.Common.{◌≡◌, ◌<◌, ◌≤◌, ◌+◌, ◌-◌, ◌^◌, ℕ, zero, suc, Bool, true, false, List, [], ◌∷◌, ◌++◌, length, refl, sym, ap, ◌∙◌, arith, inl, inr, cond}
use Rattle.std.specs.Prelude.{◌==◌, ◌||◌, Some, Option, None, slice_get, count_by}
use Rattle.std.specs.List.{filter, range_with_len}
use Rattle.std.proofs.lemmas.Bool.{cases_eq, eq-eqb, eqb-true}
use Rattle.std.proofs.lemmas.Option.{none-some, same_Some}
use Rattle.std.proofs.lemmas.Bool.Decides.{nat_tests}
use Rattle.std.proofs.lemmas.List.Elements.{filter-append}
use Rattle.facts.proofs.Counting.{count_here, count_there}
use Rattle.facts.proofs.Tests.{no}
use Rattle.link_rows.specs.Rows.{has}
use Rattle.gain_place.specs.Cut.{chip_numbers}
use Rattle.gain_place.specs.Lists.{is_the, is_last, put_if}

pub differ : (a b : ℕ) → (a ≡ b → ⊥) → (a == b) ≡ false
differ a b apart = grind (arith, nat_tests)

pub range_more : (a n : ℕ) → range_with_len a (suc n) ≡ range_with_len a n ++ (a + n) ∷ []
range_more a zero = let e : a ≡ a + 0 = omega arith in ap (λ k. k ∷ []) e
range_more a (suc n) =
    let e : a + 1 + n ≡ a + suc n = omega arith in
    ap (λ xs. a ∷ xs) (range_more (a + 1) n ∙ ap (λ k. range_with_len (a + 1) n ++ k ∷ []) e)

module _ (q : ℕ → Bool) where
  -- one number more, at the end
  pub filter_more : (n : ℕ) → filter q (range_with_len 0 (n + 1)) ≡ put_if (q n) n (filter q (range_with_len 0 n))
  filter_more n =
      let next : n + 1 ≡ suc n = omega arith in
      let here : 0 + n ≡ n = omega arith in
      ap (λ k. filter q (range_with_len 0 k)) next
      ∙ ap (filter q) (range_more 0 n ∙ ap (λ k. range_with_len 0 n ++ k ∷ []) here)
      ∙ filter-append q (range_with_len 0 n) (n ∷ [])
      ∙ go (q n)
    where
      nil : (xs : List ℕ) → xs ++ [] ≡ xs
      nil [] = refl
      nil (x ∷ xs) = ap (λ ys. x ∷ ys) (nil xs)

      go : (b : Bool) → filter q (range_with_len 0 n) ++ cond b (n ∷ []) [] ≡ put_if b n (filter q (range_with_len 0 n))
      go true = refl
      go false = nil (filter q (range_with_len 0 n))

  -- what stands in the numbers that pass is below their end, and passes
  stands : (k a n : ℕ) → has k (filter q (range_with_len a n)) ≡ true → (a ≤ k) × (k < a + n) × (q k ≡ true)
  stands k a zero h = no h
  stands k a (suc n) h = go (stands k (a + 1) n) (q a) refl h
    where
      deeper : (has k (filter q (range_with_len (a + 1) n)) ≡ true → (a + 1 ≤ k) × (k < a + 1 + n) × (q k ≡ true))
          → has k (filter q (range_with_len (a + 1) n)) ≡ true → (a ≤ k) × (k < a + suc n) × (q k ≡ true)
      deeper rest h = let r = rest h in let x = r.0 in let y = r.1 in (omega arith, omega arith, r.2)

      go : (has k (filter q (range_with_len (a + 1) n)) ≡ true → (a + 1 ≤ k) × (k < a + 1 + n) × (q k ≡ true))
          → (b : Bool) → q a ≡ b → has k (cond b (a ∷ filter q (range_with_len (a + 1) n)) (filter q (range_with_len (a + 1) n))) ≡ true
          → (a ≤ k) × (k < a + suc n) × (q k ≡ true)
      go rest false f h = deeper rest h
      go rest true f h = elim (cases_eq k a) [
        | inl e ↦ (omega arith, omega arith, ap q e ∙ f)
        | inr apart ↦ deeper rest (sym (ap (λ b. b || has k (filter q (range_with_len (a + 1) n))) (differ k a apart)) ∙ h)
      ]

  -- a number that passes stands among them
  passes : (k a n : ℕ) → a ≤ k → k < a + n → q k ≡ true → has k (filter q (range_with_len a n)) ≡ true
  passes k a zero low high f = absurd (omega arith)
  passes k a (suc n) low high f = elim (cases_eq k a) [
    | inl e ↦ ap (λ b. has k (cond b (a ∷ filter q (range_with_len (a + 1) n)) (filter q (range_with_len (a + 1) n)))) (ap q (sym e) ∙ f)
        ∙ ap (λ b. b || has k (filter q (range_with_len (a + 1) n))) (eq-eqb k a e)
    | inr apart ↦ go (q a) (passes k (a + 1) n (omega arith) (omega arith) f)
  ]
    where
      or_true : (b : Bool) → (b || true) ≡ true
      or_true true = refl
      or_true false = refl

      go : (b : Bool) → has k (filter q (range_with_len (a + 1) n)) ≡ true
          → has k (cond b (a ∷ filter q (range_with_len (a + 1) n)) (filter q (range_with_len (a + 1) n))) ≡ true
      go false h = h
      go true h = ap (λ b. (k == a) || b) h ∙ or_true (k == a)

  pub has_filter : (k n : ℕ) → k < n → has k (filter q (range_with_len 0 n)) ≡ q k
  has_filter k n low = go (q k) refl (has k (filter q (range_with_len 0 n))) refl
    where
      go : (b : Bool) → q k ≡ b → (c : Bool) → has k (filter q (range_with_len 0 n)) ≡ c → has k (filter q (range_with_len 0 n)) ≡ q k
      go true f c h = passes k 0 n (omega arith) (omega arith) f ∙ sym f
      go false f false h = h ∙ sym f
      go false f true h = let s = stands k 0 n h in no (sym f ∙ s.2)

  pub has_filter_within : (k n : ℕ) → has k (filter q (range_with_len 0 n)) ≡ true → k < n
  has_filter_within k n h = let s = stands k 0 n h in let low = s.1 in omega arith

-- what is at a place of a list stands in it
pub at_stands : (number : ℕ) (xs : List ℕ) (k : ℕ) → slice_get xs k ≡ Some number → has number xs ≡ true
at_stands number [] k at = absurd (none-some number at)
at_stands number (x ∷ xs) zero at = ap (λ b. b || has number xs) (eq-eqb number x (sym (same_Some x number at)))
at_stands number (x ∷ xs) (suc k) at = ap (λ b. (number == x) || b) (at_stands number xs k at) ∙ or_true (number == x)
  where
    or_true : (b : Bool) → (b || true) ≡ true
    or_true true = refl
    or_true false = refl

-- the last of a list stands in it
last_stands : (number : ℕ) (xs : List ℕ) → is_last number xs ≡ true → has number xs ≡ true
last_stands number xs h = go (slice_get xs (length xs - 1)) refl h
  where
    go : (o : Option ℕ) → slice_get xs (length xs - 1) ≡ o → is_the o number ≡ true → has number xs ≡ true
    go None e f = no f
    go (Some x) e f = at_stands number xs (length xs - 1) (e ∙ ap Some (eqb-true x number f))

-- a number is not the last of what passes among the numbers below it
pub not_last : (q : ℕ → Bool) (n : ℕ) → is_last n (filter q (range_with_len 0 n)) ≡ false
not_last q n = go (is_last n (filter q (range_with_len 0 n))) refl
  where
    go : (b : Bool) → is_last n (filter q (range_with_len 0 n)) ≡ b → is_last n (filter q (range_with_len 0 n)) ≡ false
    go false h = h
    go true h = let low = has_filter_within q n n (last_stands n (filter q (range_with_len 0 n)) h) in absurd (omega arith)

-- how many pass a test that one number more passes
module _ (f : ℕ → Bool) (a : ℕ) where
  pub counted_off : (s n : ℕ) → a < s → count_by (λ c. f c || (a == c)) (range_with_len s n) ≡ count_by f (range_with_len s n)
  counted_off s zero low = refl
  counted_off s (suc n) low = go (f s) refl (counted_off (s + 1) n (omega arith))
    where
      away : (a == s) ≡ false
      away = differ a s (omega arith)

      go : (b : Bool) → f s ≡ b → count_by (λ c. f c || (a == c)) (range_with_len (s + 1) n) ≡ count_by f (range_with_len (s + 1) n)
          → count_by (λ c. f c || (a == c)) (range_with_len s (suc n)) ≡ count_by f (range_with_len s (suc n))
      go true e rest =
          let x = count_here (λ c. f c || (a == c)) s (range_with_len (s + 1) n) (ap (λ b. b || (a == s)) e) in
          let y = count_here f s (range_with_len (s + 1) n) e in
          x ∙ ap (λ k. 1 + k) rest ∙ sym y
      go false e rest =
          let x = count_there (λ c. f c || (a == c)) s (range_with_len (s + 1) n) (ap (λ b. b || (a == s)) e ∙ away) in
          let y = count_there f s (range_with_len (s + 1) n) e in
          x ∙ ap (λ k. 0 + k) rest ∙ sym y

  pub counted_on : (s n : ℕ) → s ≤ a → a < s + n → f a ≡ false
      → count_by (λ c. f c || (a == c)) (range_with_len s n) ≡ count_by f (range_with_len s n) + 1
  counted_on s zero low high e = absurd (omega arith)
  counted_on s (suc n) low high e = elim (cases_eq a s) [
    | inl same ↦
        let here : f s ≡ false = ap f (sym same) ∙ e in
        let x = count_here (λ c. f c || (a == c)) s (range_with_len (s + 1) n) (ap (λ b. b || (a == s)) here ∙ eq-eqb a s same) in
        let y = count_there f s (range_with_len (s + 1) n) here in
        let rest = counted_off (s + 1) n (omega arith) in
        omega (arith, x, y, rest)
    | inr apart ↦ go (f s) refl (counted_on (s + 1) n (omega arith) (omega arith) e) (differ a s apart)
  ]
    where
      go : (b : Bool) → f s ≡ b → count_by (λ c. f c || (a == c)) (range_with_len (s + 1) n) ≡ count_by f (range_with_len (s + 1) n) + 1
          → (a == s) ≡ false
          → count_by (λ c. f c || (a == c)) (range_with_len s (suc n)) ≡ count_by f (range_with_len s (suc n)) + 1
      go true g rest away =
          let x = count_here (λ c. f c || (a == c)) s (range_with_len (s + 1) n) (ap (λ b. b || (a == s)) g) in
          let y = count_here f s (range_with_len (s + 1) n) g in
          omega (arith, x, y, rest)
      go false g rest away =
          let x = count_there (λ c. f c || (a == c)) s (range_with_len (s + 1) n) (ap (λ b. b || (a == s)) g ∙ away) in
          let y = count_there f s (range_with_len (s + 1) n) g in
          omega (arith, x, y, rest)

  -- a number that passed already is not counted again
  pub counted_again : (s n : ℕ) → f a ≡ true → count_by (λ c. f c || (a == c)) (range_with_len s n) ≡ count_by f (range_with_len s n)
  counted_again s n e = ap (λ g. count_by g (range_with_len s n)) (λ i c. same c i)
    where
      or_false : (b : Bool) → (b || false) ≡ b
      or_false true = refl
      or_false false = refl

      same : (c : ℕ) → (f c || (a == c)) ≡ f c
      same c = elim (cases_eq a c) [
        | inl is ↦ let here : f c ≡ true = ap f (sym is) ∙ e in ap (λ b. b || (a == c)) here ∙ sym here
        | inr apart ↦ ap (λ b. f c || b) (differ a c apart) ∙ or_false (f c)
      ]

-- the same of the numbers of chips
pub one_chip_more : (f : ℕ → Bool) (a : ℕ) → a < 2 ^ 32 → f a ≡ false → count_by (λ c. f c || (a == c)) chip_numbers ≡ count_by f chip_numbers + 1
unfolding chip_numbers
one_chip_more f a low e = counted_on f a 0 (2 ^ 32) (omega arith) low e

pub no_chip_more : (f : ℕ → Bool) (a : ℕ) → f a ≡ true → count_by (λ c. f c || (a == c)) chip_numbers ≡ count_by f chip_numbers
unfolding chip_numbers
no_chip_more f a e = counted_again f a 0 (2 ^ 32) e
