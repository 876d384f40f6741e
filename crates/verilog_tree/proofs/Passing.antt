-- What stands in a text is passed by prediction: ranges, left sides, expressions, lists.
use Rattle.std.proofs.Common.{◌≡◌, ℕ, ◌+◌, ◌≤◌, ◌⊎◌, inl, inr, List, [], ◌∷◌, ◌++◌, Option, Some, None, Bool, true, false, if◌then◌else◌, slice_get, length, refl, sym, ◌∙◌, ap, subst, arith}
use Rattle.verilog_tree.specs.declared.terminal.Terminal.{Terminal}
use Rattle.verilog_tree.specs.declared.terminal.Terminal.TheVariants.{Name, Number, Constant, OpenBracket, CloseBracket, OpenBrace, CloseBrace, Comma, Colon}
use Rattle.verilog_tree.specs.declared.source.Expr.{Expr}
use Rattle.verilog_tree.specs.Terminal.{code_of}
use Rattle.verilog_tree.specs.Grammar.{Is, IsNumber, Commas, first_item, more_items, IsRange, Optional, absent, present, IsNamed, whole, bit, part, IsLeft, left_named, left_join, IsLefts, left_first, more_lefts, IsExpr, expr_named, expr_constant, expr_join, expr_repeat, IsParts, part_first, more_parts}
use Rattle.verilog_tree.specs.Grammar as grammar
use Rattle.verilog_tree.specs.Predict.{Symbol, Begins, Skips, Wrong, after, after_select, after_more, is_same, number, due, more, select, select_end, range, expr, brace, left, starts, next, Leads}
use Rattle.verilog_tree.proofs.Due.{begins, passes, passes_two, follow, skips, stays}
use Rattle.verilog_tree.proofs.Terminals.{due_passed}
use Rattle.verilog_tree.proofs.Begins.{alike}
use Rattle.verilog_tree.proofs.Expressions.{join_begins}

-- a terminal that is due is passed
pub is_goes : {ts : List Terminal} {k n : ℕ} {u : Terminal} → Is ts k u n → Leads ts (due u ∷ []) k [] n
is_goes {ts} {k} {n} {u} i = subst (λ (m : ℕ). Leads ts (due u ∷ []) k [] m) (sym i.after) (due_passed ts k u i.here).goes

pub step : {ts : List Terminal} {k n : ℕ} {t : Terminal} {s : Symbol} (parts : List Symbol) → Is ts k t n → after s t ≡ Begins parts → Leads ts (s ∷ []) k (parts ++ []) n
step {ts} {k} {n} {t} {s} parts i e = subst (λ (m : ℕ). Leads ts (s ∷ []) k (parts ++ []) m) (sym i.after) (begins parts [] i.here e)

pub number_goes : {ts : List Terminal} {k n v : ℕ} → Is ts k (Number v) n → Leads ts (number ∷ []) k [] n
number_goes i = step [] i refl

-- no select begins here
abbrev pub Free : List Terminal → ℕ → Type 0
Free ts n = slice_get ts n ≡ Some OpenBracket → ⊥

pub free : (ts : List Terminal) (n m : ℕ) (t : Terminal) → Is ts n t m → (t ≡ OpenBracket → ⊥) → Free ts n
free ts n m t i other e = other (let h : slice_get ts n ≡ Some t = i.here in cc)

-- after an item of a list stands a comma or the end
abbrev pub After : List Terminal → Terminal → ℕ → Type 0
After ts end n = (slice_get ts n ≡ Some Comma) ⊎ (slice_get ts n ≡ Some end)

pub after_comma : {ts : List Terminal} (end : Terminal) {n m : ℕ} → Is ts n Comma m → After ts end n
after_comma end i = inl i.here

pub after_end : {ts : List Terminal} {end : Terminal} {n m : ℕ} → Is ts n end m → After ts end n
after_end i = inr i.here

pub not_after : (ts : List Terminal) (end t : Terminal) (n : ℕ) → After ts end n → (Comma ≡ t → ⊥) → (end ≡ t → ⊥) → slice_get ts n ≡ Some t → ⊥
not_after ts end t n (inl f) c d e = c (cc)
not_after ts end t n (inr f) c d e = d (cc)

select_skips : (ts : List Terminal) (n : ℕ) → Free ts n → Leads ts (select ∷ []) n [] n
select_skips ts n no_select = skips ts n select refl go
  where
    go : (t : Terminal) → slice_get ts n ≡ Some t → after_select t ≡ Skips
    go OpenBracket e = absurd (no_select e)
    go _ e = refl

pub named_goes : (ts : List Terminal) (k n : ℕ) (e : Expr) → IsNamed ts k n e → Free ts n → Leads ts (due Name ∷ select ∷ []) k [] n
named_goes ts _ _ _ (whole k n i) f = passes (passes stays (is_goes i)) (select_skips ts n f)
named_goes ts _ _ _ (bit k a b c n index i o v z) f =
    follow (passes (follow (passes stays (is_goes i)) (step (number ∷ select_end ∷ []) o refl)) (number_goes v)) (step [] z refl)
named_goes ts _ _ _ (part k a b c d e n l r i o v z w y) f =
    passes (passes (follow (passes (follow (passes stays (is_goes i)) (step (number ∷ select_end ∷ []) o refl)) (number_goes v)) (step (number ∷ due CloseBracket ∷ []) z refl)) (number_goes w)) (is_goes y)

pub named_here : (ts : List Terminal) (k n : ℕ) (e : Expr) → IsNamed ts k n e → slice_get ts k ≡ Some Name
named_here ts _ _ _ (whole k n i) = i.here
named_here ts _ _ _ (bit k a b c n index i o v z) = i.here
named_here ts _ _ _ (part k a b c d e n l r i o v z w y) = i.here

expr_as_name : (ts : List Terminal) (k : ℕ) → slice_get ts k ≡ Some Name → Leads ts (expr ∷ []) k (due Name ∷ select ∷ []) k
expr_as_name ts k here = alike ts k (expr ∷ []) (due Name ∷ select ∷ []) (λ below e. refl)
    (λ below t e. (let same : t ≡ Name = cc in subst (λ u. next (expr ∷ below) u ≡ next (due Name ∷ select ∷ below) u) (sym same) refl))

left_as_name : (ts : List Terminal) (k : ℕ) → slice_get ts k ≡ Some Name → Leads ts (left ∷ []) k (due Name ∷ select ∷ []) k
left_as_name ts k here = alike ts k (left ∷ []) (due Name ∷ select ∷ []) (λ below e. refl)
    (λ below t e. (let same : t ≡ Name = cc in subst (λ u. next (left ∷ below) u ≡ next (due Name ∷ select ∷ below) u) (sym same) refl))

-- an expression begins with a terminal that begins one
pub expr_starts : (ts : List Terminal) (k n : ℕ) (e : Expr) → IsExpr ts k n e → starts (slice_get ts k) ≡ true
expr_starts ts _ _ _ (expr_named k n e s) = ap starts (named_here ts k n e s)
expr_starts ts _ _ _ (expr_constant k n i) = ap starts i.here
expr_starts ts _ _ _ (expr_join k a b n es i s z) = ap starts i.here
expr_starts ts _ _ _ (expr_repeat k a b c d e n v es i w o s z y) = ap starts i.here

parts_start : (ts : List Terminal) (k n : ℕ) (es : List Expr) → IsParts ts k n es → starts (slice_get ts k) ≡ true
parts_start ts _ _ _ (part_first k n e s) = expr_starts ts k n e s
parts_start ts _ _ _ (more_parts k a b n e es s i c) = expr_starts ts k a e s

no_number : (ts : List Terminal) (k : ℕ) → starts (slice_get ts k) ≡ true → (v : ℕ) → slice_get ts k ≡ Some (Number v) → ⊥
no_number ts k s v e = (let no : false ≡ true = ap starts (sym e) ∙ s in cc)

-- the end of a list
pub more_ends : (ts : List Terminal) (x : Symbol) (end : Terminal) (k n : ℕ) → (end ≡ Comma → ⊥) → Is ts k end n → Leads ts (more x end ∷ []) k [] n
more_ends ts x end k n other i = step [] i (after_end_is end other)
  where
    after_end_is : (end : Terminal) → (end ≡ Comma → ⊥) → after_more x end end ≡ Begins []
    after_end_is Comma o = absurd (o refl)
    after_end_is _ o = refl

mutual
  pub expr_goes : (ts : List Terminal) (k n : ℕ) (e : Expr) → IsExpr ts k n e → Free ts n → Leads ts (expr ∷ []) k [] n
  expr_goes ts _ _ _ (expr_named k n e s) f = follow (expr_as_name ts k (named_here ts k n e s)) (named_goes ts k n e s f)
  expr_goes ts _ _ _ (expr_constant k n i) f = step [] i refl
  expr_goes ts _ _ _ (expr_join k a b n es i s z) f =
      follow (step (brace ∷ []) i refl)
      (follow (join_begins ts a (no_number ts a (parts_start ts a b es s)))
      (follow (parts_go ts a b es s (after_end z)) (more_ends ts expr CloseBrace b n (λ e. cc) z)))
  expr_goes ts _ _ _ (expr_repeat k a b c d e n v es i w o s z y) f =
      passes
      (passes_two
      (passes (follow (step (brace ∷ []) i refl) (step (due OpenBrace ∷ expr ∷ more expr CloseBrace ∷ due CloseBrace ∷ []) w refl)) (is_goes o))
      (follow (parts_go ts c d es s (after_end z)) (more_ends ts expr CloseBrace d e (λ x. cc) z)))
      (is_goes y)

  pub parts_go : (ts : List Terminal) (k n : ℕ) (es : List Expr) → IsParts ts k n es → After ts CloseBrace n →
      Leads ts (expr ∷ more expr CloseBrace ∷ []) k (more expr CloseBrace ∷ []) n
  parts_go ts _ _ _ (part_first k n e s) f = passes stays (expr_goes ts k n e s (not_after ts CloseBrace OpenBracket n f (λ x. cc) (λ x. cc)))
  parts_go ts _ _ _ (more_parts k a b n e es s i c) f =
      follow (follow (passes stays (expr_goes ts k a e s (free ts a b Comma i (λ x. cc)))) (step (expr ∷ more expr CloseBrace ∷ []) i refl))
      (parts_go ts b n es c f)

mutual
  pub left_goes : (ts : List Terminal) (k n : ℕ) (e : Expr) → IsLeft ts k n e → Free ts n → Leads ts (left ∷ []) k [] n
  left_goes ts _ _ _ (left_named k n e s) f = follow (left_as_name ts k (named_here ts k n e s)) (named_goes ts k n e s f)
  left_goes ts _ _ _ (left_join k a b n es i s z) f =
      follow (step (left ∷ more left CloseBrace ∷ []) i refl)
      (follow (lefts_go ts a b es s (after_end z)) (more_ends ts left CloseBrace b n (λ e. cc) z))

  lefts_go : (ts : List Terminal) (k n : ℕ) (es : List Expr) → IsLefts ts k n es → After ts CloseBrace n →
      Leads ts (left ∷ more left CloseBrace ∷ []) k (more left CloseBrace ∷ []) n
  lefts_go ts _ _ _ (left_first k n e s) f = passes stays (left_goes ts k n e s (not_after ts CloseBrace OpenBracket n f (λ x. cc) (λ x. cc)))
  lefts_go ts _ _ _ (more_lefts k a b n e es s i c) f =
      follow (follow (passes stays (left_goes ts k a e s (free ts a b Comma i (λ x. cc)))) (step (left ∷ more left CloseBrace ∷ []) i refl))
      (lefts_go ts b n es c f)

-- a list whose items are passed where a comma or the end follows
pub commas_go : {A : Type 0} (ts : List Terminal) (x : Symbol) (end : Terminal) (X : ℕ → ℕ → A → Type 0) →
    ((k n : ℕ) (a : A) → X k n a → After ts end n → Leads ts (x ∷ []) k [] n) →
    (k n : ℕ) (xs : List A) → Commas ts X k n xs → After ts end n → Leads ts (x ∷ more x end ∷ []) k (more x end ∷ []) n
commas_go ts x end X goes _ _ _ (first_item k n a s) f = passes stays (goes k n a s f)
commas_go ts x end X goes _ _ _ (more_items k a b n y xs s i c) f =
    follow (follow (passes stays (goes k a y s (after_comma end i))) (step (x ∷ more x end ∷ []) i refl)) (commas_go ts x end X goes b n xs c f)

pub commas_close : {A : Type 0} (ts : List Terminal) (x : Symbol) (end : Terminal) (X : ℕ → ℕ → A → Type 0) → (end ≡ Comma → ⊥) →
    ((k n : ℕ) (a : A) → X k n a → After ts end n → Leads ts (x ∷ []) k [] n) →
    (k m n : ℕ) (xs : List A) → Commas ts X k m xs → Is ts m end n → Leads ts (x ∷ more x end ∷ []) k [] n
commas_close ts x end X other goes k m n xs c i = follow (commas_go ts x end X goes k m xs c (after_end i)) (more_ends ts x end m n other i)

-- an item of a list stands where the list begins
pub commas_here : {A : Type 0} (ts : List Terminal) (X : ℕ → ℕ → A → Type 0) (P : ℕ → Type 0) → ((k n : ℕ) (a : A) → X k n a → P k) →
    (k n : ℕ) (xs : List A) → Commas ts X k n xs → P k
commas_here ts X P at _ _ _ (first_item k n a s) = at k n a s
commas_here ts X P at _ _ _ (more_items k a b n y xs s i c) = at k a y s
