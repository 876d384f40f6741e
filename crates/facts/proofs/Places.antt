-- Offered to the crates above: an element at a place of a list, and tests on all or some of a list.
use Rattle.std.proofs.Common.{◌≡◌, ℕ, zero, suc, ◌+◌, ◌<◌, arith, Bool, true, false, List, [], ◌∷◌, ◌++◌, length, get_or, map, refl, subst, sym, ap, ◌∙◌, inl, inr}
use Rattle.std.specs.Prelude.{◌||◌, ◌⊎◌, Some, slice_get, Contains, zip}
use Rattle.std.specs.List.{list_any, list_all}
use Rattle.std.proofs.lemmas.Option.{none-some, same_Some, slice_get_within, get_or_from_slice_get, slice_get-get_or}
use Rattle.facts.proofs.Tests.{no, left, right}

pub contains_at : {X : Type 0} (xs : List X) (k : ℕ) (x : X) → slice_get xs k ≡ Some x → Contains xs x
contains_at xs k x at = (k, slice_get_within xs k x at, get_or_from_slice_get xs k x x at)

pub at_contains : {X : Type 0} (xs : List X) (x : X) → Contains xs x → (k : ℕ) × (slice_get xs k ≡ Some x)
at_contains xs x h = (h.0, slice_get-get_or xs h.0 x h.1 ∙ ap Some h.2)

any_after : {X : Type 0} (p : X → Bool) (y : X) (ys : List X) → (b : Bool) → p y ≡ b → (list_any p ys ≡ true → (k : ℕ) × (x : X) × (slice_get ys k ≡ Some x) × (p x ≡ true))
    → (b || list_any p ys) ≡ true → (k : ℕ) × (x : X) × (slice_get (y ∷ ys) k ≡ Some x) × (p x ≡ true)
any_after p y ys true e rest h = (0, y, refl, e)
any_after p y ys false e rest h = let r = rest h in (suc r.0, r.1, r.2, r.3)

-- what some of a list passes, an element at a place passes
pub any_found : {X : Type 0} (p : X → Bool) (xs : List X) → list_any p xs ≡ true → (k : ℕ) × (x : X) × (slice_get xs k ≡ Some x) × (p x ≡ true)
any_found p [] h = no h
any_found p (y ∷ ys) h = any_after p y ys (p y) refl (any_found p ys) h

pub all_at : {X : Type 0} (p : X → Bool) (xs : List X) (k : ℕ) (x : X) → list_all p xs ≡ true → slice_get xs k ≡ Some x → p x ≡ true
all_at p [] k x h at = absurd (none-some x at)
all_at p (y ∷ ys) zero x h at = ap p (sym (same_Some y x at)) ∙ left (p y) (list_all p ys) h
all_at p (y ∷ ys) (suc k) x h at = all_at p ys k x (right (p y) (list_all p ys) h) at

-- an element of a list with one more at its end stands in the list, or is the last
pub at_last : {X : Type 0} (xs : List X) (last : X) (k : ℕ) (x : X) → slice_get (xs ++ last ∷ []) k ≡ Some x → (slice_get xs k ≡ Some x) ⊎ (last ≡ x)
at_last [] last zero x at = inr (same_Some last x at)
at_last [] last (suc k) x at = absurd (none-some x at)
at_last (y ∷ ys) last zero x at = inl at
at_last (y ∷ ys) last (suc k) x at = at_last ys last k x at

pub zip_at : {X : Type 0} {Y : Type 0} (xs : List X) (ys : List Y) (k : ℕ) (x : X) (y : Y) → slice_get xs k ≡ Some x → slice_get ys k ≡ Some y → slice_get (zip xs ys) k ≡ Some (x, y)
zip_at [] ys k x y at there = absurd (none-some x at)
zip_at (a ∷ xs) [] k x y at there = absurd (none-some y there)
zip_at {X} {Y} (a ∷ xs) (b ∷ ys) zero x y at there =
    ap (λ (z : X). Some (z, b)) (same_Some a x at) ∙ ap (λ (z : Y). Some (x, z)) (same_Some b y there)
zip_at (a ∷ xs) (b ∷ ys) (suc k) x y at there = zip_at xs ys k x y at there

pub at_zip : {X : Type 0} {Y : Type 0} (xs : List X) (ys : List Y) (k : ℕ) (e : X × Y) → slice_get (zip xs ys) k ≡ Some e → (slice_get xs k ≡ Some e.0) × (slice_get ys k ≡ Some e.1)
at_zip [] ys k e at = absurd (none-some e at)
at_zip (a ∷ xs) [] k e at = absurd (none-some e at)
at_zip {X} {Y} (a ∷ xs) (b ∷ ys) zero e at =
    let same : ◌≡◌ {A = X × Y} (a, b) e = same_Some (a, b) e at in
    (ap (λ (q : X × Y). Some q.0) same, ap (λ (q : X × Y). Some q.1) same)
at_zip (a ∷ xs) (b ∷ ys) (suc k) e at = at_zip xs ys k e at

-- a list that is as long has an element at each place of the other
pub at_same_place : {X : Type 0} {Y : Type 0} (xs : List X) (ys : List Y) (k : ℕ) (x : X) → length xs ≡ length ys → slice_get xs k ≡ Some x → (y : Y) × (slice_get ys k ≡ Some y)
at_same_place xs [] k x long at =
    let within : k < length xs = slice_get_within xs k x at in
    let none : length xs ≡ 0 = long in
    absurd (omega arith)
at_same_place xs (y ∷ ys) k x long at =
    let within : k < length xs = slice_get_within xs k x at in
    let short : k < length (y ∷ ys) = subst (λ (n : ℕ). k < n) long within in
    (get_or (y ∷ ys) k y, slice_get-get_or (y ∷ ys) k y short)

pub at_map : {X : Type 0} {Y : Type 0} (f : X → Y) (xs : List X) (k : ℕ) (y : Y) → slice_get (map f xs) k ≡ Some y → (x : X) × (slice_get xs k ≡ Some x) × (y ≡ f x)
at_map f [] k y at = absurd (none-some y at)
at_map f (x ∷ xs) zero y at = (x, refl, sym (same_Some (f x) y at))
at_map f (x ∷ xs) (suc k) y at = at_map f xs k y at

-- where one of three counts is 1, one of them is not 0
pub one_of : (a b c : ℕ) → a + b + c ≡ 1 → (0 < a) ⊎ (0 < b) ⊎ (0 < c)
one_of (suc a) b c h = let some : 0 < suc a = omega arith in inl some
one_of zero (suc b) c h = let some : 0 < suc b = omega arith in inr (inl some)
one_of zero zero c h = let some : 0 < c = omega arith in inr (inr some)
