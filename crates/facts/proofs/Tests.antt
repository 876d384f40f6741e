-- Offered to the crates above: tests, and numbers that a test compares.
use Rattle.std.proofs.Common.{◌≡◌, ℕ, ◌<◌, arith, Bool, true, false, not, T, refl, subst, sym, inl, inr}
use Rattle.std.specs.Prelude.{◌==◌, ◌&&◌, ◌||◌, nat_lt, Option, Some, None, option_map, ◌⊎◌}
use Rattle.std.proofs.lemmas.Bool.Decides.{nat_tests}
use Rattle.std.proofs.lemmas.Option.{none-some, same_Some}
-- crates above import it under this name
pub use Rattle.facts.proofs.Counting.{find_at as found}

pub no : {A : Type 0} → false ≡ true → A
no e = absurd (subst (λ (b : Bool). T (not b)) e tt)

pub left : (a b : Bool) → (a && b) ≡ true → a ≡ true
left true b h = refl
left false b h = no h

pub right : (a b : Bool) → (a && b) ≡ true → b ≡ true
right true b h = h
right false b h = no h

pub either : (a b : Bool) → (a || b) ≡ true → (a ≡ true) ⊎ (b ≡ true)
either true b h = inl refl
either false b h = inr h

pub or_right : (a b : Bool) → a ≡ false → (a || b) ≡ true → b ≡ true
or_right true b f h = no (sym f)
or_right false b f h = h

pub not_true : (b : Bool) → not b ≡ true → b ≡ false
not_true true h = no h
not_true false h = refl

pub must : (b : Bool) → (b ≡ false → ⊥) → b ≡ true
must true h = refl
must false h = absurd (h refl)

pub must_not : (b : Bool) → (not b ≡ true → ⊥) → b ≡ true
must_not true h = refl
must_not false h = absurd (h refl)

-- numbers that are the same pass the test
pub same_number : (a b : ℕ) → a ≡ b → (a == b) ≡ true
same_number a b e = grind (arith, nat_tests)

-- numbers that pass the test are the same
pub number_same : (a b : ℕ) → (a == b) ≡ true → a ≡ b
number_same a b h = grind (arith, nat_tests)

pub below : (a b : ℕ) → nat_lt a b ≡ true → a < b
below a b h = grind (arith, nat_tests)

pub mapped : {A B : Type 0} (f : A → B) (o : Option A) (y : B) → option_map f o ≡ Some y → (x : A) × (o ≡ Some x) × (f x ≡ y)
mapped f None y e = absurd (none-some y e)
mapped f (Some x) y e = (x, refl, same_Some (f x) y e)
