-- Offered to the crates above: how many elements of a list pass a test, and what is found where at most one does.
use Rattle.std.proofs.Common.{◌≡◌, ℕ, zero, suc, ◌+◌, ◌<◌, ◌≤◌, arith, Bool, true, false, not, cond, List, [], ◌∷◌, length, get_or, refl, subst, sym, ap, ◌∙◌}
use Rattle.std.specs.Prelude.{nat_lt, Option, Some, None, slice_get, count_by, position, find}
use Rattle.std.specs.List.{position_or_len}
use Rattle.std.proofs.lemmas.Bool.Decides.{nat_tests}
use Rattle.std.proofs.lemmas.Option.{none-some, same_Some, slice_get_within, slice_get-get_or}
use Rattle.std.proofs.lemmas.List.Sums.{sum_by-cons}
use Rattle.std.proofs.lemmas.List.Quantifiers.{position-Some}

module _ {X : Type 0} (p : X → Bool) where
  pub count_here : (x : X) (xs : List X) → p x ≡ true → count_by p (x ∷ xs) ≡ 1 + count_by p xs
  count_here x xs e = sum_by-cons (λ y. cond {A = ℕ} (p y) 1 0) x xs ∙ ap (λ b. cond {A = ℕ} b 1 0 + count_by p xs) e

  pub count_there : (x : X) (xs : List X) → p x ≡ false → count_by p (x ∷ xs) ≡ 0 + count_by p xs
  count_there x xs e = sum_by-cons (λ y. cond {A = ℕ} (p y) 1 0) x xs ∙ ap (λ b. cond {A = ℕ} b 1 0 + count_by p xs) e

  pub count_more : (x : X) (xs : List X) → count_by p xs ≤ count_by p (x ∷ xs)
  count_more x xs = go (p x) refl
    where
      go : (b : Bool) → p x ≡ b → count_by p xs ≤ count_by p (x ∷ xs)
      go true e = omega (arith, count_here x xs e)
      go false e = omega (arith, count_there x xs e)

  pub counted : (xs : List X) (k : ℕ) (x : X) → slice_get xs k ≡ Some x → p x ≡ true → 0 < count_by p xs
  counted [] k x at e = absurd (none-some x at)
  counted (y ∷ ys) zero x at e = omega (arith, count_here y ys (ap p (same_Some y x at) ∙ e))
  counted (y ∷ ys) (suc k) x at e = omega (arith, count_more y ys, counted ys k x at e)

  at_position : (xs : List X) (k : ℕ) (x : X) → slice_get xs k ≡ Some x → p x ≡ true → count_by p xs ≤ 1 → position_or_len p xs ≡ k
  at_position [] k x at e one = absurd (none-some x at)
  at_position (y ∷ ys) zero x at e one =
      ap (λ b. cond {A = ℕ} (not b) (1 + position_or_len p ys) 0) (ap p (same_Some y x at) ∙ e)
  at_position (y ∷ ys) (suc k) x at e one = go (at_position ys k x at e) (p y) refl
    where
      rest : 0 < count_by p ys
      rest = counted ys k x at e

      go : (count_by p ys ≤ 1 → position_or_len p ys ≡ k) → (b : Bool) → p y ≡ b → position_or_len p (y ∷ ys) ≡ suc k
      go deep true f = absurd (omega (arith, count_here y ys f, rest))
      go deep false f =
          let small : count_by p ys ≤ 1 = omega (arith, count_there y ys f) in
          let before : position_or_len p ys ≡ k = deep small in
          let step : 1 + position_or_len p ys ≡ suc k = omega arith in
          ap (λ b. cond {A = ℕ} (not b) (1 + position_or_len p ys) 0) f ∙ step

  pub found : (xs : List X) (k : ℕ) (x : X) → slice_get xs k ≡ Some x → p x ≡ true → count_by p xs ≤ 1 → position p xs ≡ Some k
  found xs k x at e one =
      let within : k < length xs = slice_get_within xs k x at in
      let less : nat_lt k (length xs) ≡ true = grind (arith, nat_tests) in
      ap (λ j. cond (nat_lt j (length xs)) (Some j) None) (at_position xs k x at e one) ∙ ap (λ b. cond b (Some k) None) less

  pub positioned : (xs : List X) (k : ℕ) → position p xs ≡ Some k → (x : X) × (slice_get xs k ≡ Some x) × (p x ≡ true)
  positioned [] k e = absurd (none-some k e)
  positioned (y ∷ ys) k e =
      let h = position-Some p (y ∷ ys) k y e in
      (get_or (y ∷ ys) k y, slice_get-get_or (y ∷ ys) k y h.0, h.1)

  pub unplaced : (xs : List X) → count_by p xs ≡ 0 → position p xs ≡ None
  unplaced xs none = go (position p xs) refl
    where
      go : (o : Option ℕ) → position p xs ≡ o → position p xs ≡ None
      go None e = e
      go (Some k) e =
          let h = positioned xs k e in
          let some : 0 < count_by p xs = counted xs k h.0 h.1 h.2 in
          absurd (omega arith)

  pub first : (xs : List X) (k : ℕ) (x : X) → slice_get xs k ≡ Some x → p x ≡ true → count_by p xs ≤ 1 → find p xs ≡ Some x
  first [] k x at e one = absurd (none-some x at)
  first (y ∷ ys) zero x at e one =
      ap (λ b. cond b (Some y) (find p ys)) (ap p (same_Some y x at) ∙ e) ∙ at
  first (y ∷ ys) (suc k) x at e one = go (first ys k x at e) (p y) refl
    where
      rest : 0 < count_by p ys
      rest = counted ys k x at e

      go : (count_by p ys ≤ 1 → find p ys ≡ Some x) → (b : Bool) → p y ≡ b → find p (y ∷ ys) ≡ Some x
      go deep true f = absurd (omega (arith, count_here y ys f, rest))
      go deep false f =
          let small : count_by p ys ≤ 1 = omega (arith, count_there y ys f) in
          ap (λ b. cond b (Some y) (find p ys)) f ∙ deep small

  pub find_at : (xs : List X) (x : X) → find p xs ≡ Some x → (k : ℕ) × (slice_get xs k ≡ Some x) × (p x ≡ true)
  find_at [] x e = absurd (none-some x e)
  find_at (y ∷ ys) x e = go (find_at ys x) (p y) refl
    where
      go : (find p ys ≡ Some x → (k : ℕ) × (slice_get ys k ≡ Some x) × (p x ≡ true)) → (b : Bool) → p y ≡ b → (k : ℕ) × (slice_get (y ∷ ys) k ≡ Some x) × (p x ≡ true)
      go deep true f =
          let same : Some y ≡ Some x = sym (ap (λ b. cond b (Some y) (find p ys)) f) ∙ e in
          (0, same, ap p (sym (same_Some y x same)) ∙ f)
      go deep false f =
          let h = deep (sym (ap (λ b. cond b (Some y) (find p ys)) f) ∙ e) in
          (suc h.0, h.1, h.2)

counted_after : {X : Type 0} (p : X → Bool) (y : X) (ys : List X) → (b : Bool) → p y ≡ b → (0 < count_by p ys → (k : ℕ) × (x : X) × (slice_get ys k ≡ Some x) × (p x ≡ true))
    → 0 < cond {A = ℕ} b 1 0 + count_by p ys → (k : ℕ) × (x : X) × (slice_get (y ∷ ys) k ≡ Some x) × (p x ≡ true)
counted_after p y ys true e rest h = (0, y, refl, e)
counted_after p y ys false e rest h =
    let more : 0 < count_by p ys = omega arith in
    let r = rest more in
    (suc r.0, r.1, r.2, r.3)

-- where some of a list are counted, an element at a place passes
pub counted_found : {X : Type 0} (p : X → Bool) (xs : List X) → 0 < count_by p xs → (k : ℕ) × (x : X) × (slice_get xs k ≡ Some x) × (p x ≡ true)
counted_found p [] h = absurd (omega arith)
counted_found p (y ∷ ys) h =
    counted_after p y ys (p y) refl (counted_found p ys) (subst (λ (n : ℕ). 0 < n) (sum_by-cons (λ y. cond {A = ℕ} (p y) 1 0) y ys) h)

-- where none of a list are counted, nothing is found
pub not_found : {X : Type 0} (p : X → Bool) (xs : List X) → count_by p xs ≡ 0 → find p xs ≡ None
not_found {X} p xs none = go (find p xs) refl
  where
    go : (o : Option X) → find p xs ≡ o → find p xs ≡ None
    go None e = e
    go (Some x) e =
        let f = find_at p xs x e in
        let some : 0 < count_by p xs = counted p xs f.0 x f.1 f.2 in
        absurd (omega arith)
