-- One part more at the end of a list.
use Rattle.std.proofs.Common.{ℕ, List, [], ◌∷◌, ◌++◌}
use Rattle.verilog_tree.specs.declared.source.Expr.{Expr}
use Rattle.verilog_tree.specs.declared.terminal.Terminal.{Terminal}
use Rattle.verilog_tree.specs.declared.terminal.Terminal.TheVariants.{Comma}
use Rattle.verilog_tree.specs.Grammar.{Is, Commas, first_item, more_items, IsLeft, IsLefts, left_first, more_lefts, IsExpr, IsParts, part_first, more_parts, Many, none, and_more}

pub next_item : {A : Type 0} {ts : List Terminal} {X : ℕ → ℕ → A → Type 0} (k a b n : ℕ) (xs : List A) (x : A) →
    Commas ts X k a xs → Is ts a Comma b → X b n x → Commas ts X k n (xs ++ x ∷ [])
next_item _ _ b n _ x (first_item k a y s) i z = more_items k a b n y (x ∷ []) s i (first_item b n x z)
next_item _ _ b n _ x (more_items k c d a y ys s j rest) i z = more_items k c d n y (ys ++ x ∷ []) s j (next_item d a b n ys x rest i z)

pub left_next : {ts : List Terminal} (k a b n : ℕ) (es : List Expr) (e : Expr) →
    IsLefts ts k a es → Is ts a Comma b → IsLeft ts b n e → IsLefts ts k n (es ++ e ∷ [])
left_next _ _ b n _ x (left_first k a y s) i z = more_lefts k a b n y (x ∷ []) s i (left_first b n x z)
left_next _ _ b n _ x (more_lefts k c d a y ys s j rest) i z = more_lefts k c d n y (ys ++ x ∷ []) s j (left_next d a b n ys x rest i z)

pub part_next : {ts : List Terminal} (k a b n : ℕ) (es : List Expr) (e : Expr) →
    IsParts ts k a es → Is ts a Comma b → IsExpr ts b n e → IsParts ts k n (es ++ e ∷ [])
part_next _ _ b n _ x (part_first k a y s) i z = more_parts k a b n y (x ∷ []) s i (part_first b n x z)
part_next _ _ b n _ x (more_parts k c d a y ys s j rest) i z = more_parts k c d n y (ys ++ x ∷ []) s j (part_next d a b n ys x rest i z)

pub another : {A : Type 0} {X : ℕ → ℕ → A → Type 0} (k a n : ℕ) (xs : List A) (x : A) → Many X k a xs → X a n x → Many X k n (xs ++ x ∷ [])
another _ _ n _ x (none k) z = and_more k n n x [] z (none n)
another _ _ n _ x (and_more k c a y ys s rest) z = and_more k c n y (ys ++ x ∷ []) s (another c a n ys x rest z)
