-- Offered to the crates above: elements that stand in a list, and in lists that are made from one.
use Rattle.std.proofs.Common.{◌≡◌, ℕ, zero, suc, ◌+◌, ◌<◌, arith, Bool, true, false, ◌⊎◌, inl, inr, List, [], ◌∷◌, ◌++◌, refl, subst, sym, ap, ◌∙◌}
use Rattle.std.specs.Prelude.{◌||◌, Some, slice_get, count_by, flat_map}
use Rattle.std.specs.List.{list_any, enumerate_from}
use Rattle.std.proofs.lemmas.Option.{none-some, same_Some}
use Rattle.facts.proofs.Counting.{count_here, count_more}
use Rattle.facts.proofs.Tests.{or_right}
-- crates above import these from here too
pub use Rattle.facts.proofs.Counting.{found, first, find_at}
pub use Rattle.facts.proofs.Tests.{no}

module _ {X : Type 0} (p : X → Bool) where
  pub any_counted : (xs : List X) → list_any p xs ≡ true → 0 < count_by p xs
  any_counted [] h = no h
  any_counted (y ∷ ys) h = go (any_counted ys) (p y) refl
    where
      go : (list_any p ys ≡ true → 0 < count_by p ys) → (b : Bool) → p y ≡ b → 0 < count_by p (y ∷ ys)
      go deep true e = omega (arith, count_here p y ys e)
      go deep false e = omega (arith, count_more p y ys, deep (or_right (p y) (list_any p ys) e h))

  pub none_any : (xs : List X) → count_by p xs ≡ 0 → list_any p xs ≡ false
  none_any xs none = go (list_any p xs) refl
    where
      go : (b : Bool) → list_any p xs ≡ b → list_any p xs ≡ false
      go false e = e
      go true e =
          let some : 0 < count_by p xs = any_counted xs e in
          absurd (omega arith)

  pub any_at : (xs : List X) (k : ℕ) (x : X) → slice_get xs k ≡ Some x → p x ≡ true → list_any p xs ≡ true
  any_at [] k x at e = absurd (none-some x at)
  any_at (y ∷ ys) zero x at e = ap (λ b. b || list_any p ys) (ap p (same_Some y x at) ∙ e)
  any_at (y ∷ ys) (suc k) x at e = go (any_at ys k x at e) (p y) refl
    where
      go : list_any p ys ≡ true → (b : Bool) → p y ≡ b → list_any p (y ∷ ys) ≡ true
      go deep true f = ap (λ b. b || list_any p ys) f
      go deep false f = ap (λ b. b || list_any p ys) f ∙ deep

-- an element stands somewhere in a list
pub record Has {X : Type 0} (xs : List X) (x : X) : Type 0 where
  pub place : ℕ
  pub at : slice_get xs place ≡ Some x

module _ {X : Type 0} where
  pub has_left : (xs ys : List X) (x : X) → Has xs x → Has (xs ++ ys) x
  has_left [] ys x h = absurd (none-some x h.at)
  has_left (y ∷ xs) ys x h = go (has_left xs ys x) h.place h.at
    where
      go : (Has xs x → Has (xs ++ ys) x) → (k : ℕ) → slice_get (y ∷ xs) k ≡ Some x → Has (y ∷ (xs ++ ys)) x
      go deep zero at = record { place = 0; at = at }
      go deep (suc k) at = let h : Has (xs ++ ys) x = deep (record { place = k; at = at }) in record { place = suc h.place; at = h.at }

  pub has_right : (xs ys : List X) (x : X) → Has ys x → Has (xs ++ ys) x
  has_right [] ys x h = h
  has_right (y ∷ xs) ys x h =
      let deep : Has (xs ++ ys) x = has_right xs ys x h in
      record { place = suc deep.place; at = deep.at }

  has_split : (xs ys : List X) (x : X) → Has (xs ++ ys) x → Has xs x ⊎ Has ys x
  has_split [] ys x h = inr h
  has_split (y ∷ xs) ys x h = go (has_split xs ys x) h.place h.at
    where
      deeper : Has xs x ⊎ Has ys x → Has (y ∷ xs) x ⊎ Has ys x
      deeper (inl l) = inl (record { place = suc l.place; at = l.at })
      deeper (inr r) = inr r

      go : (Has (xs ++ ys) x → Has xs x ⊎ Has ys x) → (k : ℕ) → slice_get (y ∷ (xs ++ ys)) k ≡ Some x → Has (y ∷ xs) x ⊎ Has ys x
      go deep zero at = inl (record { place = 0; at = at })
      go deep (suc k) at = deeper (deep (record { place = k; at = at }))

-- an element stands in what a list gives, under the element at a place
pub record Under {X A : Type 0} (f : X → List A) (xs : List X) (a : A) : Type 0 where
  pub place : ℕ
  pub item : X
  pub at : slice_get xs place ≡ Some item
  pub has : Has (f item) a

module _ {X A : Type 0} (f : X → List A) where
  pub has_under : (xs : List X) (a : A) → Under f xs a → Has (flat_map f xs) a
  has_under [] a u = absurd (none-some u.item u.at)
  has_under (y ∷ ys) a u = go (has_under ys a) u.place u.at
    where
      go : (Under f ys a → Has (flat_map f ys) a) → (k : ℕ) → slice_get (y ∷ ys) k ≡ Some u.item → Has (f y ++ flat_map f ys) a
      go deep zero at = has_left (f y) (flat_map f ys) a (subst (λ (x : X). Has (f x) a) (sym (same_Some y u.item at)) u.has)
      go deep (suc k) at =
          has_right (f y) (flat_map f ys) a (deep (record { place = k; item = u.item; at = at; has = u.has }))

  pub under_has : (xs : List X) (a : A) → Has (flat_map f xs) a → Under f xs a
  under_has [] a h = absurd (none-some a h.at)
  under_has (y ∷ ys) a h = go (under_has ys a) (has_split (f y) (flat_map f ys) a h)
    where
      go : (Has (flat_map f ys) a → Under f ys a) → Has (f y) a ⊎ Has (flat_map f ys) a → Under f (y ∷ ys) a
      go deep (inl l) = record { place = 0; item = y; at = refl; has = l }
      go deep (inr r) =
          let u : Under f ys a = deep r in
          record { place = suc u.place; item = u.item; at = u.at; has = u.has }

module _ {X : Type 0} where
  pub enumerated : (xs : List X) (n k j : ℕ) (x : X) → slice_get xs k ≡ Some x → j ≡ n + k → slice_get (enumerate_from n xs) k ≡ Some (j, x)
  enumerated [] n k j x at e = absurd (none-some x at)
  enumerated (y ∷ ys) n zero j x at e =
      let same : n ≡ j = omega arith in
      ap (λ (z : X). Some (n, z)) (same_Some y x at) ∙ ap (λ (i : ℕ). Some (i, x)) same
  enumerated (y ∷ ys) n (suc k) j x at e =
      let next : j ≡ (n + 1) + k = omega arith in
      enumerated ys (n + 1) k j x at next

  -- what an enumerated element says of the list
  pub record Numbered (xs : List X) (n k j : ℕ) (x : X) : Type 0 where
    pub at : slice_get xs k ≡ Some x
    pub number : j ≡ n + k

  pub numbered : (xs : List X) (n k : ℕ) (e : ℕ × X) → slice_get (enumerate_from n xs) k ≡ Some e → Numbered xs n k e.0 e.1
  numbered [] n k e at = absurd (none-some e at)
  numbered (y ∷ ys) n zero e at =
      let same : ◌≡◌ {A = ℕ × X} (n, y) e = same_Some (n, y) e at in
      let left : n ≡ e.0 = ap (λ (q : ℕ × X). q.0) same in
      record { at = ap (λ (q : ℕ × X). Some q.1) same; number = omega arith }
  numbered (y ∷ ys) n (suc k) e at =
      let h : Numbered ys (n + 1) k e.0 e.1 = numbered ys (n + 1) k e at in
      let number : e.0 ≡ (n + 1) + k = h.number in
      record { at = h.at; number = omega arith }
