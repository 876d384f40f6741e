-- Reading the connections of an instance.
use Rattle.std.proofs.Common.{◌≡◌, ℕ, ◌+◌, ◌≤◌, List, [], ◌∷◌, ◌++◌, Option, Some, None, slice_get, length, length-append, refl, sym, ◌∙◌, ap, subst, arith}
use Rattle.verilog_tree.specs.declared.terminal.Terminal.{Terminal}
use Rattle.verilog_tree.specs.declared.terminal.Terminal.TheVariants.{CloseParen, Comma}
use Rattle.verilog_tree.specs.declared.source.Expr.{Expr}
use Rattle.verilog_tree.specs.Grammar.{Is, IsExpr, Commas, first_item, more_items, Optional, absent, present}
use Rattle.verilog_tree.specs.Predict.{Closed}

-- a list with commas is not empty
pub commas_length : {A : Type 0} (ts : List Terminal) (X : ℕ → ℕ → A → Type 0) (k n : ℕ) (xs : List A) → Commas ts X k n xs → 1 ≤ length xs
commas_length ts X _ _ _ (first_item k n x s) = omega arith
commas_length ts X _ _ _ (more_items k a b n x xs s i c) = omega arith

absent_ends : {A : Type 0} (X : ℕ → ℕ → A → Type 0) (k n : ℕ) (o : Option A) → Optional X k n o → o ≡ None → n ≡ k
absent_ends X _ _ _ (absent k) e = refl
absent_ends X _ _ _ (present k n a s) e = cc

-- one empty place alone takes no terminal
alone : {A : Type 0} (ts : List Terminal) (X : ℕ → ℕ → A → Type 0) (k n : ℕ) (xs : List (Option A)) → Commas ts (Optional X) k n xs → xs ≡ None ∷ [] → n ≡ k
alone ts X _ _ _ (first_item k n o s) e = absent_ends X k n o s (cc)
alone {A} ts X _ _ _ (more_items k a b n x xs s i c) e =
    let some : 1 ≤ length xs = commas_length ts (Optional X) b n xs c in
    let long : length (x ∷ xs) ≡ 1 = ap (λ (l : List (Option A)). length l) e in
    absurd (omega arith)

-- where the parentheses are not empty, the places are not one empty place
pub not_alone : (ts : List Terminal) (k n : ℕ) (places : List (Option Expr)) → (slice_get ts k ≡ Some CloseParen → ⊥) →
    Closed ts (Commas ts (Optional (IsExpr ts))) CloseParen k n places → places ≡ None ∷ [] → ⊥
not_alone ts k n places not_close c e =
    not_close (subst (λ p. slice_get ts p ≡ Some CloseParen) (alone ts (IsExpr ts) k c.place places c.stands e) c.ends.here)
