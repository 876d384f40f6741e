-- There is at most one tree: what stands at one place in two ways is the same.
use Rattle.std.proofs.Common.{◌≡◌, ℕ, ◌+◌, ◌≤◌, ◌⊎◌, inl, inr, List, [], ◌∷◌, ◌++◌, Option, Some, None, Bool, true, false, slice_get, length, refl, sym, ◌∙◌, ap, subst, arith}
use Rattle.verilog_tree.specs.declared.terminal.Terminal.{Terminal}
use Rattle.verilog_tree.specs.declared.terminal.Terminal.TheVariants.{Name, Number, Constant, Module, EndModule, Direction, Wire, Supply, Assign, Gate, OpenParen, CloseParen, OpenBracket, CloseBracket, OpenBrace, CloseBrace, Comma, Semicolon, Colon, Equals, Dot}
use Rattle.verilog_tree.specs.declared.source.AssignPair.{AssignPair}
use Rattle.verilog_tree.specs.declared.source.Dir.{Dir}
use Rattle.verilog_tree.specs.declared.source.Expr.{Expr}
use Rattle.verilog_tree.specs.declared.source.Expr.TheVariants as tree
use Rattle.verilog_tree.specs.declared.source.IndexRange.{IndexRange}
use Rattle.verilog_tree.specs.declared.source.Inst.{Inst}
use Rattle.verilog_tree.specs.declared.source.NamedLink.{NamedLink}
use Rattle.verilog_tree.specs.declared.source.NetPart.{NetPart}
use Rattle.verilog_tree.specs.declared.source.GatePart.{GatePart}
use Rattle.verilog_tree.specs.Grammar as grammar
use Rattle.verilog_tree.specs.Grammar.{Is, Commas, first_item, more_items, Optional, absent, present, IsRange, IsNamed, whole, bit, part, IsLeft, left_named, left_join, IsLefts, left_first, more_lefts, IsExpr, expr_named, expr_constant, expr_join, expr_repeat, IsParts, part_first, more_parts, IsName, name, IsValue, IsNet, IsPair}
use Rattle.verilog_tree.specs.Predict.{starts}
use Rattle.verilog_tree.proofs.Passing.{Free, free, After, after_comma, after_end, not_after, named_here, expr_starts}

-- one place has one terminal
pub at_one : (ts : List Terminal) (k k' : ℕ) (t t' : Terminal) → k ≡ k' → slice_get ts k ≡ Some t → slice_get ts k' ≡ Some t' → t ≡ t'
at_one ts k k' t t' p e f = let g : slice_get ts k ≡ slice_get ts k' = ap (slice_get ts) p in cc

pub is_one : {ts : List Terminal} {k k' n n' : ℕ} {t t' : Terminal} → k ≡ k' → Is ts k t n → Is ts k' t' n' → n ≡ n'
is_one p i j = (let e = i.after in let f = j.after in omega arith)

pub same_terminal : {ts : List Terminal} {k k' n n' : ℕ} {t t' : Terminal} → k ≡ k' → Is ts k t n → Is ts k' t' n' → t ≡ t'
same_terminal {ts} {k} {k'} {n} {n'} {t} {t'} p i j = at_one ts k k' t t' p i.here j.here

pub number_one : {ts : List Terminal} {k k' n n' v v' : ℕ} → k ≡ k' → Is ts k (Number v) n → Is ts k' (Number v') n' → v ≡ v'
number_one {v = v} {v' = v'} p i j = (let e : Number v ≡ Number v' = same_terminal p i j in cc)

-- a name that is whole is not followed by a select
not_free : {ts : List Terminal} {n m b : ℕ} → n ≡ m → Free ts n → Is ts m OpenBracket b → ⊥
not_free {ts} {n} {m} p f i = f (ap (slice_get ts) p ∙ i.here)

pub unique_named : (ts : List Terminal) (k k' n n' : ℕ) (e e' : Expr) → k ≡ k' → IsNamed ts k n e → IsNamed ts k' n' e' → Free ts n → Free ts n' → (n ≡ n') × (e ≡ e')
unique_named ts _ _ _ _ _ _ p (whole k n i) (whole k' n' i') f f' = (is_one p i i', ap tree.Whole p)
unique_named ts _ _ _ _ _ _ p (whole k n i) (bit k' a' b' c' n' x' i' o' v' z') f f' = absurd (not_free (is_one p i i') f o')
unique_named ts _ _ _ _ _ _ p (whole k n i) (part k' a' b' c' d' e' n' l' r' i' o' v' z' w' y') f f' = absurd (not_free (is_one p i i') f o')
unique_named ts _ _ _ _ _ _ p (bit k a b c n x i o v z) (whole k' n' i') f f' = absurd (not_free (is_one (sym p) i' i) f' o)
unique_named ts _ _ _ _ _ _ p (bit k a b c n x i o v z) (bit k' a' b' c' n' x' i' o' v' z') f f' =
    let pa = is_one p i i' in let pb = is_one pa o o' in let pc = is_one pb v v' in
    let px = number_one pb v v' in (is_one pc z z', ap (λ j. tree.Bit j x) p ∙ ap (tree.Bit k') px)
unique_named ts _ _ _ _ _ _ p (bit k a b c n x i o v z) (part k' a' b' c' d' e' n' l' r' i' o' v' z' w' y') f f' =
    let pc = is_one (is_one (is_one p i i') o o') v v' in let h : CloseBracket ≡ Colon = same_terminal pc z z' in absurd (let no : ⊥ = cc in no)
unique_named ts _ _ _ _ _ _ p (part k a b c d e n l r i o v z w y) (whole k' n' i') f f' = absurd (not_free (is_one (sym p) i' i) f' o)
unique_named ts _ _ _ _ _ _ p (part k a b c d e n l r i o v z w y) (bit k' a' b' c' n' x' i' o' v' z') f f' =
    let pc = is_one (is_one (is_one p i i') o o') v v' in let h : Colon ≡ CloseBracket = same_terminal pc z z' in absurd (let no : ⊥ = cc in no)
unique_named ts _ _ _ _ _ _ p (part k a b c d e n l r i o v z w y) (part k' a' b' c' d' e' n' l' r' i' o' v' z' w' y') f f' =
    let pb = is_one (is_one p i i') o o' in let pc = is_one pb v v' in let pd = is_one pc z z' in let pe = is_one pd w w' in
    let pl = number_one pb v v' in let pr = number_one pd w w' in
    (is_one pe y y', ap (λ j. tree.Part j l r) p ∙ ap (λ j. tree.Part k' j r) pl ∙ ap (tree.Part k' l') pr)

mutual
  pub unique_left : (ts : List Terminal) (k k' n n' : ℕ) (e e' : Expr) → k ≡ k' → IsLeft ts k n e → IsLeft ts k' n' e' → Free ts n → Free ts n' → (n ≡ n') × (e ≡ e')
  unique_left ts _ _ _ _ _ _ p (left_named k n e s) (left_named k' n' e' s') f f' = unique_named ts k k' n n' e e' p s s' f f'
  unique_left ts _ _ _ _ _ _ p (left_named k n e s) (left_join k' a' b' n' es' i' s' z') f f' =
      let h : Name ≡ OpenBrace = at_one ts k k' Name OpenBrace p (named_here ts k n e s) i'.here in absurd (let no : ⊥ = cc in no)
  unique_left ts _ _ _ _ _ _ p (left_join k a b n es i s z) (left_named k' n' e' s') f f' =
      let h : OpenBrace ≡ Name = at_one ts k k' OpenBrace Name p i.here (named_here ts k' n' e' s') in absurd (let no : ⊥ = cc in no)
  unique_left ts _ _ _ _ _ _ p (left_join k a b n es i s z) (left_join k' a' b' n' es' i' s' z') f f' =
      let q = unique_lefts ts a a' b b' es es' (is_one p i i') s s' z.here z'.here in (is_one q.0 z z', ap tree.Join q.1)

  unique_lefts : (ts : List Terminal) (k k' n n' : ℕ) (es es' : List Expr) → k ≡ k' → IsLefts ts k n es → IsLefts ts k' n' es' →
      slice_get ts n ≡ Some CloseBrace → slice_get ts n' ≡ Some CloseBrace → (n ≡ n') × (es ≡ es')
  unique_lefts ts _ _ _ _ _ _ p (left_first k n e s) (left_first k' n' e' s') f f' =
      let q = unique_left ts k k' n n' e e' p s s' (λ g. cc) (λ g. cc) in (q.0, ap (λ x. x ∷ []) q.1)
  unique_lefts ts _ _ _ _ _ _ p (left_first k n e s) (more_lefts k' a' b' n' e' es' s' i' c') f f' =
      let q = unique_left ts k k' n a' e e' p s s' (λ g. cc) (free ts a' b' Comma i' (λ x. cc)) in
      let h : CloseBrace ≡ Comma = at_one ts n a' CloseBrace Comma q.0 f i'.here in absurd (let no : ⊥ = cc in no)
  unique_lefts ts _ _ _ _ _ _ p (more_lefts k a b n e es s i c) (left_first k' n' e' s') f f' =
      let q = unique_left ts k k' a n' e e' p s s' (free ts a b Comma i (λ x. cc)) (λ g. cc) in
      let h : Comma ≡ CloseBrace = at_one ts a n' Comma CloseBrace q.0 i.here f' in absurd (let no : ⊥ = cc in no)
  unique_lefts ts _ _ _ _ _ _ p (more_lefts k a b n e es s i c) (more_lefts k' a' b' n' e' es' s' i' c') f f' =
      let q = unique_left ts k k' a a' e e' p s s' (free ts a b Comma i (λ x. cc)) (free ts a' b' Comma i' (λ x. cc)) in
      let r = unique_lefts ts b b' n n' es es' (is_one q.0 i i') c c' f f' in (r.0, ap (λ x. x ∷ es) q.1 ∙ ap (λ xs. e' ∷ xs) r.1)

starts_no_number : (ts : List Terminal) (k k' : ℕ) (v : ℕ) → k ≡ k' → starts (slice_get ts k) ≡ true → slice_get ts k' ≡ Some (Number v) → ⊥
starts_no_number ts k k' v p s e = (let f : false ≡ true = sym (ap starts (ap (slice_get ts) p ∙ e)) ∙ s in cc)

parts_start : (ts : List Terminal) (k n : ℕ) (es : List Expr) → IsParts ts k n es → starts (slice_get ts k) ≡ true
parts_start ts _ _ _ (part_first k n e s) = expr_starts ts k n e s
parts_start ts _ _ _ (more_parts k a b n e es s i c) = expr_starts ts k a e s

mutual
  pub unique_expr : (ts : List Terminal) (k k' n n' : ℕ) (e e' : Expr) → k ≡ k' → IsExpr ts k n e → IsExpr ts k' n' e' → Free ts n → Free ts n' → (n ≡ n') × (e ≡ e')
  unique_expr ts _ _ _ _ _ _ p (expr_named k n e s) (expr_named k' n' e' s') f f' = unique_named ts k k' n n' e e' p s s' f f'
  unique_expr ts _ _ _ _ _ _ p (expr_constant k n i) (expr_constant k' n' i') f f' = (is_one p i i', ap tree.Constant p)
  unique_expr ts _ _ _ _ _ _ p (expr_join k a b n es i s z) (expr_join k' a' b' n' es' i' s' z') f f' =
      let q = unique_parts ts a a' b b' es es' (is_one p i i') s s' z.here z'.here in (is_one q.0 z z', ap tree.Join q.1)
  unique_expr ts _ _ _ _ _ _ p (expr_join k a b n es i s z) (expr_repeat k' a' b' c' d' e' n' v' es' i' w' o' s' z' y') f f' =
      absurd (starts_no_number ts a a' v' (is_one p i i') (parts_start ts a b es s) w'.here)
  unique_expr ts _ _ _ _ _ _ p (expr_repeat k a b c d e n v es i w o s z y) (expr_join k' a' b' n' es' i' s' z') f f' =
      absurd (starts_no_number ts a' a v (sym (is_one p i i')) (parts_start ts a' b' es' s') w.here)
  unique_expr ts _ _ _ _ _ _ p (expr_repeat k a b c d e n v es i w o s z y) (expr_repeat k' a' b' c' d' e' n' v' es' i' w' o' s' z' y') f f' =
      let pa = is_one p i i' in let pc = is_one (is_one pa w w') o o' in
      let q = unique_parts ts c c' d d' es es' pc s s' z.here z'.here in
      (is_one (is_one q.0 z z') y y', ap (λ j. tree.Repeat j es) (number_one pa w w') ∙ ap (tree.Repeat v') q.1)
  unique_expr ts _ _ _ _ _ _ p (expr_named k n e s) (expr_constant k' n' i') f f' = let h : Name ≡ Constant = at_one ts k k' Name Constant p (named_here ts k n e s) i'.here in absurd (let no : ⊥ = cc in no)
  unique_expr ts _ _ _ _ _ _ p (expr_named k n e s) (expr_join k' a' b' n' es' i' s' z') f f' = let h : Name ≡ OpenBrace = at_one ts k k' Name OpenBrace p (named_here ts k n e s) i'.here in absurd (let no : ⊥ = cc in no)
  unique_expr ts _ _ _ _ _ _ p (expr_named k n e s) (expr_repeat k' a' b' c' d' e' n' v' es' i' w' o' s' z' y') f f' = let h : Name ≡ OpenBrace = at_one ts k k' Name OpenBrace p (named_here ts k n e s) i'.here in absurd (let no : ⊥ = cc in no)
  unique_expr ts _ _ _ _ _ _ p (expr_constant k n i) (expr_named k' n' e' s') f f' = let h : Constant ≡ Name = at_one ts k k' Constant Name p i.here (named_here ts k' n' e' s') in absurd (let no : ⊥ = cc in no)
  unique_expr ts _ _ _ _ _ _ p (expr_constant k n i) (expr_join k' a' b' n' es' i' s' z') f f' = let h : Constant ≡ OpenBrace = at_one ts k k' Constant OpenBrace p i.here i'.here in absurd (let no : ⊥ = cc in no)
  unique_expr ts _ _ _ _ _ _ p (expr_constant k n i) (expr_repeat k' a' b' c' d' e' n' v' es' i' w' o' s' z' y') f f' = let h : Constant ≡ OpenBrace = at_one ts k k' Constant OpenBrace p i.here i'.here in absurd (let no : ⊥ = cc in no)
  unique_expr ts _ _ _ _ _ _ p (expr_join k a b n es i s z) (expr_named k' n' e' s') f f' = let h : OpenBrace ≡ Name = at_one ts k k' OpenBrace Name p i.here (named_here ts k' n' e' s') in absurd (let no : ⊥ = cc in no)
  unique_expr ts _ _ _ _ _ _ p (expr_join k a b n es i s z) (expr_constant k' n' i') f f' = let h : OpenBrace ≡ Constant = at_one ts k k' OpenBrace Constant p i.here i'.here in absurd (let no : ⊥ = cc in no)
  unique_expr ts _ _ _ _ _ _ p (expr_repeat k a b c d e n v es i w o s z y) (expr_named k' n' e' s') f f' = let h : OpenBrace ≡ Name = at_one ts k k' OpenBrace Name p i.here (named_here ts k' n' e' s') in absurd (let no : ⊥ = cc in no)
  unique_expr ts _ _ _ _ _ _ p (expr_repeat k a b c d e n v es i w o s z y) (expr_constant k' n' i') f f' = let h : OpenBrace ≡ Constant = at_one ts k k' OpenBrace Constant p i.here i'.here in absurd (let no : ⊥ = cc in no)

  unique_parts : (ts : List Terminal) (k k' n n' : ℕ) (es es' : List Expr) → k ≡ k' → IsParts ts k n es → IsParts ts k' n' es' →
      slice_get ts n ≡ Some CloseBrace → slice_get ts n' ≡ Some CloseBrace → (n ≡ n') × (es ≡ es')
  unique_parts ts _ _ _ _ _ _ p (part_first k n e s) (part_first k' n' e' s') f f' =
      let q = unique_expr ts k k' n n' e e' p s s' (λ g. cc) (λ g. cc) in (q.0, ap (λ x. x ∷ []) q.1)
  unique_parts ts _ _ _ _ _ _ p (part_first k n e s) (more_parts k' a' b' n' e' es' s' i' c') f f' =
      let q = unique_expr ts k k' n a' e e' p s s' (λ g. cc) (free ts a' b' Comma i' (λ x. cc)) in
      let h : CloseBrace ≡ Comma = at_one ts n a' CloseBrace Comma q.0 f i'.here in absurd (let no : ⊥ = cc in no)
  unique_parts ts _ _ _ _ _ _ p (more_parts k a b n e es s i c) (part_first k' n' e' s') f f' =
      let q = unique_expr ts k k' a n' e e' p s s' (free ts a b Comma i (λ x. cc)) (λ g. cc) in
      let h : Comma ≡ CloseBrace = at_one ts a n' Comma CloseBrace q.0 i.here f' in absurd (let no : ⊥ = cc in no)
  unique_parts ts _ _ _ _ _ _ p (more_parts k a b n e es s i c) (more_parts k' a' b' n' e' es' s' i' c') f f' =
      let q = unique_expr ts k k' a a' e e' p s s' (free ts a b Comma i (λ x. cc)) (free ts a' b' Comma i' (λ x. cc)) in
      let r = unique_parts ts b b' n n' es es' (is_one q.0 i i') c c' f f' in (r.0, ap (λ x. x ∷ es) q.1 ∙ ap (λ xs. e' ∷ xs) r.1)

-- lists with commas up to their end
pub unique_commas : {A : Type 0} (ts : List Terminal) (end : Terminal) (X : ℕ → ℕ → A → Type 0) → (end ≡ Comma → ⊥) →
    ((k k' n n' : ℕ) (a a' : A) → k ≡ k' → X k n a → X k' n' a' → After ts end n → After ts end n' → (n ≡ n') × (a ≡ a')) →
    (k k' n n' : ℕ) (xs xs' : List A) → k ≡ k' → Commas ts X k n xs → Commas ts X k' n' xs' →
    slice_get ts n ≡ Some end → slice_get ts n' ≡ Some end → (n ≡ n') × (xs ≡ xs')
unique_commas ts end X other u _ _ _ _ _ _ p (first_item k n a s) (first_item k' n' a' s') f f' =
    let q = u k k' n n' a a' p s s' (inr f) (inr f') in (q.0, ap (λ x. x ∷ []) q.1)
unique_commas ts end X other u _ _ _ _ _ _ p (first_item k n y s) (more_items k' a' b' n' y' xs' s' i' c') f f' =
    let q = u k k' n a' y y' p s s' (inr f) (inl i'.here) in absurd (other (at_one ts n a' end Comma q.0 f i'.here))
unique_commas ts end X other u _ _ _ _ _ _ p (more_items k a b n y xs s i c) (first_item k' n' y' s') f f' =
    let q = u k k' a n' y y' p s s' (inl i.here) (inr f') in absurd (other (sym (at_one ts a n' Comma end q.0 i.here f')))
unique_commas ts end X other u _ _ _ _ _ _ p (more_items k a b n y xs s i c) (more_items k' a' b' n' y' xs' s' i' c') f f' =
    let q = u k k' a a' y y' p s s' (inl i.here) (inl i'.here) in
    let r = unique_commas ts end X other u b b' n n' xs xs' (is_one q.0 i i') c c' f f' in
    (r.0, ap (λ x. x ∷ xs) q.1 ∙ ap (λ l. y' ∷ l) r.1)
