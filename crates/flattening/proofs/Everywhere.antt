-- What holds of each thing of a list, as a fact of each by itself.
use Rattle.std.proofs.Common.{◌≡◌, ℕ, zero, suc, Bool, true, false, cond, List, [], ◌∷◌, ◌++◌, Some, refl, subst, map}
use Rattle.std.specs.Prelude.{◌&&◌, filter, flat_map, slice_get}
use Rattle.std.specs.List.{list_all}
use Rattle.std.proofs.lemmas.Option.{none-some, same_Some}

-- each thing of a list is so
abbrev pub Every : {X : Type 0} → (X → Type 0) → List X → Type 0
Every P [] = Unit {0}
Every P (x ∷ xs) = P x × Every P xs

pub every_append : {X : Type 0} (P : X → Type 0) (xs ys : List X) → Every P xs → Every P ys → Every P (xs ++ ys)
every_append P [] ys some more = more
every_append P (x ∷ xs) ys some more = (some.0, every_append P xs ys some.1 more)

pub every_map : {X Y : Type 0} (P : X → Type 0) (f : Y → X) (ys : List Y) → Every (λ y. P (f y)) ys → Every P (map f ys)
every_map P f [] all = tt
every_map P f (y ∷ ys) all = (all.0, every_map P f ys all.1)

pub every_flat : {X Y : Type 0} (P : X → Type 0) (f : Y → List X) (ys : List Y) → Every (λ y. Every P (f y)) ys → Every P (flat_map f ys)
every_flat P f [] all = tt
every_flat P f (y ∷ ys) all = every_append P (f y) (flat_map f ys) all.0 (every_flat P f ys all.1)

pub every_more : {X : Type 0} (P Q : X → Type 0) (xs : List X) → ((x : X) → P x → Q x) → Every P xs → Every Q xs
every_more P Q [] more all = tt
every_more P Q (x ∷ xs) more all = (more x all.0, every_more P Q xs more all.1)

pub every_one : {X : Type 0} (P : X → Type 0) (xs : List X) → ((x : X) → P x) → Every P xs
every_one P [] each = tt
every_one P (x ∷ xs) each = (each x, every_one P xs each)

pub every_at : {X : Type 0} (P : X → Type 0) (xs : List X) (k : ℕ) (x : X) → Every P xs → slice_get xs k ≡ Some x → P x
every_at P [] k x all at = absurd (none-some x at)
every_at P (y ∷ xs) zero x all at = subst P (same_Some y x at) all.0
every_at P (y ∷ xs) (suc k) x all at = every_at P xs k x all.1 at

pub at_every : {X : Type 0} (P : X → Type 0) (xs : List X) → ((k : ℕ) (x : X) → slice_get xs k ≡ Some x → P x) → Every P xs
at_every P [] each = tt
at_every P (x ∷ xs) each = (each 0 x refl, at_every P xs (λ k. each (suc k)))

-- a test that passes wherever the fact holds
pub every_passes : {X : Type 0} (P : X → Type 0) (p : X → Bool) (xs : List X) → ((x : X) → P x → p x ≡ true) → Every P xs → list_all p xs ≡ true
every_passes P p [] each all = refl
every_passes P p (x ∷ xs) each all =
    let first = each x all.0 in
    let rest = every_passes P p xs each all.1 in
    λ i. first i && rest i

pub every_kept : {X : Type 0} (P : X → Type 0) (p : X → Bool) (xs : List X) → Every P xs → Every P (filter p xs)
every_kept P p [] all = tt
every_kept P p (x ∷ xs) all = go (p x) (every_kept P p xs all.1)
  where
    go : (b : Bool) → Every P (filter p xs) → Every P (cond b (x ∷ filter p xs) (filter p xs))
    go true rest = (all.0, rest)
    go false rest = rest
