-- Things that all differ in a number below a bound are no more than that bound.
use Rattle.std.proofs.Common.{◌≡◌, ◌<◌, ◌≤◌, ◌+◌, ℕ, zero, suc, Bool, true, false, cond, List, [], ◌∷◌, length, refl, ap, inl, inr, arith}
use Rattle.std.specs.Prelude.{◌==◌, ◌⊎◌, nat_lt, count_by, All}
use Rattle.std.proofs.lemmas.Bool.{cases_order}
use Rattle.std.proofs.lemmas.Bool.Decides.{nat_tests}
use Rattle.std.proofs.lemmas.List.Sums.{sum_by-cons}
use Rattle.std.proofs.lemmas.List.Elements.{All-head, All-tail}
use Rattle.facts.proofs.Tests.{same_number}

pub is_less : (a b : ℕ) → a < b → nat_lt a b ≡ true
is_less a b h = grind (arith, nat_tests)

is_not_less : (a b : ℕ) → b ≤ a → nat_lt a b ≡ false
is_not_less a b h = grind (arith, nat_tests)

pub is_other : (a b : ℕ) → (a ≡ b → ⊥) → (a == b) ≡ false
is_other a b h = grind (arith, nat_tests, h)

abbrev pub one_if : Bool → ℕ
one_if b = cond {A = ℕ} b 1 0

-- a number below the next bound is below the bound or is the bound
split : (a m : ℕ) → one_if (nat_lt a (suc m)) ≡ one_if (nat_lt a m) + one_if (a == m)
split a m = go (cases_order a m)
  where
    go : (a ≡ m) ⊎ ((a < m) ⊎ (m < a)) → one_if (nat_lt a (suc m)) ≡ one_if (nat_lt a m) + one_if (a == m)
    go (inl same) =
        let l : nat_lt a (suc m) ≡ true = is_less a (suc m) (omega arith) in
        let n : nat_lt a m ≡ false = is_not_less a m (omega arith) in
        let e : (a == m) ≡ true = same_number a m same in
        rw (l, n, e) refl
    go (inr (inl less)) =
        let l : nat_lt a (suc m) ≡ true = is_less a (suc m) (omega arith) in
        let n : nat_lt a m ≡ true = is_less a m less in
        let e : (a == m) ≡ false = is_other a m (λ same. omega arith) in
        rw (l, n, e) refl
    go (inr (inr more)) =
        let l : nat_lt a (suc m) ≡ false = is_not_less a (suc m) (omega arith) in
        let n : nat_lt a m ≡ false = is_not_less a m (omega arith) in
        let e : (a == m) ≡ false = is_other a m (λ same. omega arith) in
        rw (l, n, e) refl

module _ {X : Type 0} (f : X → ℕ) where
  abbrev below : ℕ → List X → ℕ
  below m xs = count_by (λ x. nat_lt (f x) m) xs

  abbrev equal : ℕ → List X → ℕ
  equal m xs = count_by (λ x. f x == m) xs

  one_more : (m : ℕ) (xs : List X) → below (suc m) xs ≡ below m xs + equal m xs
  one_more m [] = refl
  one_more m (x ∷ xs) =
      let next : below (suc m) (x ∷ xs) ≡ one_if (nat_lt (f x) (suc m)) + below (suc m) xs = sum_by-cons (λ y. one_if (nat_lt (f y) (suc m))) x xs in
      let less : below m (x ∷ xs) ≡ one_if (nat_lt (f x) m) + below m xs = sum_by-cons (λ y. one_if (nat_lt (f y) m)) x xs in
      let same : equal m (x ∷ xs) ≡ one_if (f x == m) + equal m xs = sum_by-cons (λ y. one_if (f y == m)) x xs in
      let here : one_if (nat_lt (f x) (suc m)) ≡ one_if (nat_lt (f x) m) + one_if (f x == m) = split (f x) m in
      let rest : below (suc m) xs ≡ below m xs + equal m xs = one_more m xs in
      omega arith

  none_below : (xs : List X) → below 0 xs ≡ 0
  none_below [] = refl
  none_below (x ∷ xs) =
      let first : below 0 (x ∷ xs) ≡ one_if (nat_lt (f x) 0) + below 0 xs = sum_by-cons (λ y. one_if (nat_lt (f y) 0)) x xs in
      let here : one_if (nat_lt (f x) 0) ≡ 0 = ap one_if (is_not_less (f x) 0 (omega arith)) in
      let rest : below 0 xs ≡ 0 = none_below xs in
      omega arith

  all_below : (m : ℕ) (xs : List X) → All (λ x. f x < m) xs → below m xs ≡ length xs
  all_below m [] h = refl
  all_below m (x ∷ xs) h =
      let first : below m (x ∷ xs) ≡ one_if (nat_lt (f x) m) + below m xs = sum_by-cons (λ y. one_if (nat_lt (f y) m)) x xs in
      let here : one_if (nat_lt (f x) m) ≡ 1 = ap one_if (is_less (f x) m (All-head (λ y. f y < m) x xs h)) in
      let rest : below m xs ≡ length xs = all_below m xs (All-tail (λ y. f y < m) x xs h) in
      omega arith

  bounded : (m : ℕ) (xs : List X) → ((n : ℕ) → n < m → equal n xs ≤ 1) → below m xs ≤ m
  bounded zero xs once = let none : below 0 xs ≡ 0 = none_below xs in omega arith
  bounded (suc m) xs once =
      let rest : below m xs ≤ m = bounded m xs (λ n low. once n (omega arith)) in
      let here : equal m xs ≤ 1 = once m (omega arith) in
      let next : below (suc m) xs ≡ below m xs + equal m xs = one_more m xs in
      omega arith

  pub few : (m : ℕ) (xs : List X) → All (λ x. f x < m) xs → ((n : ℕ) → n < m → count_by (λ x. f x == n) xs ≤ 1) → length xs ≤ m
  few m xs low once =
      let all : below m xs ≡ length xs = all_below m xs low in
      let bound : below m xs ≤ m = bounded m xs once in
      omega arith
