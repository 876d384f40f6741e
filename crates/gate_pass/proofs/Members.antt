-- What a list contains, and what a gate makes of it.
use Rattle.std.proofs.Common.{◌≡◌, ℕ, zero, suc, ◌<◌, arith, Bool, true, false, List, [], ◌∷◌, length, get_or, set, map, refl, sym, ap, subst, ◌∙◌, inl, inr}
use Rattle.std.specs.Prelude.{◌⊎◌, Contains}
use Rattle.std.proofs.lemmas.Bool.{cases_eq, cases_lt}
use Rattle.std.proofs.lemmas.List.{get_or_past, get_or-set_other}
use Rattle.facts.proofs.Tests.{no}
use Rattle.graph_rank.specs.Rows.{row}
use Rattle.gate_pass.specs.Gates.{turn_gives, value_on}

pub never_both : {A : Type 0} (b : Bool) → b ≡ true → b ≡ false → A
never_both b up down = no (sym down ∙ up)

-- a bit is set or clear
pub set_or_clear : (b : Bool) → (b ≡ true) ⊎ (b ≡ false)
set_or_clear true = inl refl
set_or_clear false = inr refl

pub contains_head : {X : Type 0} (x : X) (xs : List X) → Contains (x ∷ xs) x
contains_head x xs = (0, omega arith, refl)

pub contains_tail : {X : Type 0} (x : X) (xs : List X) (y : X) → Contains xs y → Contains (x ∷ xs) y
contains_tail x xs y h = (suc h.0, omega (arith, h.1), h.2)

-- what a list contains is its head, or the rest contains it
pub head_or_tail : {X : Type 0} (x : X) (xs : List X) (y : X) → Contains (x ∷ xs) y → (x ≡ y) ⊎ Contains xs y
head_or_tail {X} x xs y h = go h.0 h.1 h.2
  where
    go : (k : ℕ) → k < length (x ∷ xs) → get_or (x ∷ xs) k y ≡ y → (x ≡ y) ⊎ Contains xs y
    go zero low e = inl e
    go (suc k) low e = inr (k, omega (arith, low), e)

pub empty_contains : {X : Type 0} (y : X) → Contains {X = X} [] y → ⊥
empty_contains y h = let low : h.0 < 0 = h.1 in omega (arith, low)

-- a list contains a number or not
pub contains_or_not : (xs : List ℕ) (n : ℕ) → Contains xs n ⊎ (Contains xs n → ⊥)
contains_or_not [] n = inr (empty_contains n)
contains_or_not (x ∷ xs) n = go (cases_eq x n) (contains_or_not xs n)
  where
    go : (x ≡ n) ⊎ (x ≡ n → ⊥) → Contains xs n ⊎ (Contains xs n → ⊥) → Contains (x ∷ xs) n ⊎ (Contains (x ∷ xs) n → ⊥)
    go (inl e) rest = inl (0, omega arith, e)
    go (inr other) (inl h) = inl (contains_tail x xs n h)
    go (inr other) (inr none) = inr (λ h. elim (head_or_tail x xs n h) [ inl e ↦ other e | inr r ↦ none r ])

-- functions that agree on what a list contains give the same list
pub same_images : {T : Type 0} (f g : ℕ → T) (xs : List ℕ) → ((n : ℕ) → Contains xs n → f n ≡ g n) → map f xs ≡ map g xs
same_images f g [] same = refl
same_images f g (x ∷ xs) same =
    ap (λ y. y ∷ map f xs) (same x (contains_head x xs))
    ∙ ap (λ ys. g x ∷ ys) (same_images f g xs (λ n h. same n (contains_tail x xs n h)))

-- a place at which a row contains something is that of a row
pub row_there : (rows : List (List ℕ)) (k n : ℕ) → Contains (row rows k) n → k < length rows
row_there rows k n h =
    elim (cases_lt k (length rows)) [
      | inl low ↦ low
      | inr past ↦ absurd (empty_contains n (subst (λ (xs : List ℕ). Contains xs n) (get_or_past rows k [] past) h))
    ]

-- what a gate gives does not change with a net that it does not read
pub unread : {T : Type 0} (gives : ℕ → List T → T) (none : T) (inputs : List (List ℕ)) (values : List T) (n : ℕ) (value : T) (k : ℕ) → (Contains (row inputs k) n → ⊥)
    → turn_gives gives none inputs (set values n value) k ≡ turn_gives gives none inputs values k
unread gives none inputs values n value k not_read =
    ap (gives k)
    (same_images (value_on none (set values n value)) (value_on none values) (row inputs k)
    (λ m has. get_or-set_other values n m value none (λ same. not_read (subst (Contains (row inputs k)) same has))))
