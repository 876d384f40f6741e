-- Reading an expression.
use Rattle.std.proofs.Common.{◌≡◌, ℕ, ◌+◌, ◌≤◌, List, [], ◌∷◌, ◌++◌, Some, Result, Bool, true, false, slice_get, length, refl, sym, ◌∙◌, ap, subst, arith}
use Rattle.verilog_tree.specs.declared.terminal.Terminal.{Terminal}
use Rattle.verilog_tree.specs.declared.terminal.Terminal.TheVariants.{Name, Constant, Number, OpenBrace, CloseBrace, Comma}
use Rattle.verilog_tree.specs.declared.reader.Read.{Read}
use Rattle.verilog_tree.specs.declared.reader.Stop.{Stop as StopOf}
use Rattle.verilog_tree.specs.declared.reader.Stop.TheVariants as Stop
use Rattle.verilog_tree.specs.declared.source.Expr.{Expr}
use Rattle.verilog_tree.specs.declared.source.Expr.TheVariants as tree
use Rattle.verilog_tree.specs.Grammar as grammar
use Rattle.verilog_tree.specs.Grammar.{Is, IsNamed, IsExpr, IsParts}
use Rattle.verilog_tree.specs.Predict.{Symbol, Begins, Skips, Wrong, after_expr, after_brace, then_due, number, due, more, select, expr, brace, Leads, Fails, Passes, Answers, Reads, Separates, Closes, Closed, Gathers}
use Rattle.verilog_tree.proofs.Pushing.{part_next}
use Rattle.verilog_tree.proofs.Due.{begins, passes, passes_two, follow, fails_after, fails_from, fails_two, unfolds, answers_from, wrong, here_within}
use Rattle.verilog_tree.proofs.Gathering.{gathers_first, gathers_next}

pub expr_named : (ts : List Terminal) (k : ℕ) (r : Result (Read Expr) StopOf) → slice_get ts k ≡ Some Name →
    Answers ts (select ∷ []) (λ _ n e. IsNamed ts k n e) (k + 1) r → Answers ts (expr ∷ []) (IsExpr ts) k r
expr_named ts k r e f =
    answers_from (λ _ n x. IsNamed ts k n x) (IsExpr ts) r (begins (select ∷ []) [] e refl) (omega arith) (λ n x h. grammar.expr_named k n x h) f

pub expr_constant : (ts : List Terminal) (k : ℕ) → slice_get ts k ≡ Some Constant → Reads ts (expr ∷ []) (IsExpr ts) k (k + 1) (tree.Constant k)
expr_constant ts k e = record {
  stands = grammar.expr_constant k (k + 1) (record { here = e; after = refl });
  goes = begins [] [] e refl;
  forward = omega arith;
  inside = here_within ts k Constant e;
}

pub expr_brace : (ts : List Terminal) (k : ℕ) (r : Result (Read Expr) StopOf) → slice_get ts k ≡ Some OpenBrace →
    Answers ts (brace ∷ []) (λ _ n e. IsExpr ts k n e) (k + 1) r → Answers ts (expr ∷ []) (IsExpr ts) k r
expr_brace ts k r e f =
    answers_from (λ _ n x. IsExpr ts k n x) (IsExpr ts) r (begins (brace ∷ []) [] e refl) (omega arith) (λ n x h. h) f

pub expr_wrong : (ts : List Terminal) (k : ℕ) → k ≤ length ts → (slice_get ts k ≡ Some Name → ⊥) → (slice_get ts k ≡ Some Constant → ⊥) →
    (slice_get ts k ≡ Some OpenBrace → ⊥) → Fails ts (expr ∷ []) k (Stop.Stuck k)
expr_wrong ts k w not_name not_constant not_open = wrong ts k expr [] w refl go
  where
    go : (t : Terminal) → slice_get ts k ≡ Some t → after_expr t ≡ Wrong
    go Name e = absurd (not_name e)
    go Constant e = absurd (not_constant e)
    go OpenBrace e = absurd (not_open e)
    go _ e = refl

pub ruleset expressions = (expr_named, expr_brace, expr_wrong)

-- no terminal shows that an expression is absent
pub expr_due : (t : Terminal) → after_expr t ≡ Skips → ⊥
expr_due Name e = cc
expr_due Constant e = cc
expr_due OpenBrace e = cc
expr_due _ e = cc

-- after a brace that no number follows, parts are due
pub join_begins : (ts : List Terminal) (k : ℕ) → ((n : ℕ) → slice_get ts k ≡ Some (Number n) → ⊥) →
    Leads ts (brace ∷ []) k (expr ∷ more expr CloseBrace ∷ []) k
join_begins ts k not_number = unfolds ts k brace expr (more expr CloseBrace ∷ []) refl refl expr_due go
  where
    go : (t : Terminal) → slice_get ts k ≡ Some t → after_brace t ≡ then_due (after_expr t) (more expr CloseBrace ∷ [])
    go (Number n) e = absurd (not_number n e)
    go _ e = refl

pub join_fails : (ts : List Terminal) (k : ℕ) (stop : StopOf) → ((n : ℕ) → slice_get ts k ≡ Some (Number n) → ⊥) →
    Fails ts (expr ∷ more expr CloseBrace ∷ []) k stop → Fails ts (brace ∷ []) k stop
join_fails ts k stop not_number f = fails_from (join_begins ts k not_number) f

pub join_read : (ts : List Terminal) (start n : ℕ) (es : List Expr) → slice_get ts start ≡ Some OpenBrace →
    ((n : ℕ) → slice_get ts (start + 1) ≡ Some (Number n) → ⊥) →
    Reads ts (expr ∷ more expr CloseBrace ∷ []) (Closed ts (IsParts ts) CloseBrace) (start + 1) n es →
    Reads ts (brace ∷ []) (λ _ n e. IsExpr ts start n e) (start + 1) n (tree.Join es)
join_read ts start n es e not_number r = record {
  stands = grammar.expr_join start (start + 1) r.stands.place n es (record { here = e; after = refl }) r.stands.stands r.stands.ends;
  goes = follow (join_begins ts (start + 1) not_number) r.goes;
  forward = r.forward;
  inside = r.inside;
}

repeat_begins : {ts : List Terminal} {k count : ℕ} → slice_get ts k ≡ Some (Number count) →
    Leads ts (brace ∷ []) k (due OpenBrace ∷ expr ∷ more expr CloseBrace ∷ due CloseBrace ∷ []) (k + 1)
repeat_begins e = begins (due OpenBrace ∷ expr ∷ more expr CloseBrace ∷ due CloseBrace ∷ []) [] e refl

pub repeat_open : (ts : List Terminal) (k count : ℕ) (stop : StopOf) → slice_get ts k ≡ Some (Number count) →
    Fails ts (due OpenBrace ∷ []) (k + 1) stop → Fails ts (brace ∷ []) k stop
repeat_open ts k count stop e f = fails_after (repeat_begins e) f

pub repeat_parts : (ts : List Terminal) (k count a : ℕ) (stop : StopOf) → slice_get ts k ≡ Some (Number count) →
    Passes ts OpenBrace (k + 1) a → Fails ts (expr ∷ more expr CloseBrace ∷ []) a stop → Fails ts (brace ∷ []) k stop
repeat_parts ts k count a stop e o f = fails_two (passes (repeat_begins e) o.goes) f

pub repeat_close : (ts : List Terminal) (k count a b : ℕ) (es : List Expr) (stop : StopOf) → slice_get ts k ≡ Some (Number count) →
    Passes ts OpenBrace (k + 1) a → Reads ts (expr ∷ more expr CloseBrace ∷ []) (Closed ts (IsParts ts) CloseBrace) a b es →
    Fails ts (due CloseBrace ∷ []) b stop → Fails ts (brace ∷ []) k stop
repeat_close ts k count a b es stop e o r f = fails_after (passes_two (passes (repeat_begins e) o.goes) r.goes) f

pub repeat_read : (ts : List Terminal) (start count a b n : ℕ) (es : List Expr) → slice_get ts start ≡ Some OpenBrace →
    slice_get ts (start + 1) ≡ Some (Number count) → Passes ts OpenBrace (start + 1 + 1) a →
    Reads ts (expr ∷ more expr CloseBrace ∷ []) (Closed ts (IsParts ts) CloseBrace) a b es → Passes ts CloseBrace b n →
    Reads ts (brace ∷ []) (λ _ n e. IsExpr ts start n e) (start + 1) n (tree.Repeat count es)
repeat_read ts start count a b n es e c o r z = record {
  stands = grammar.expr_repeat start (start + 1) (start + 1 + 1) a r.stands.place b n count es
      (record { here = e; after = refl }) (record { here = c; after = refl }) o.is r.stands.stands r.stands.ends z.is;
  goes = passes (passes_two (passes (repeat_begins c) o.goes) r.goes) z.goes;
  forward = (let f : a ≡ start + 1 + 1 + 1 = o.is.after in let g : a ≤ b = r.forward in let h : n ≡ b + 1 = z.is.after in omega arith);
  inside = z.inside;
}

pub ruleset braces = (join_fails, repeat_open, repeat_parts, repeat_close)

pub parts_first : {ts : List Terminal} {k n : ℕ} {e : Expr} {none es : List Expr} → none ≡ [] → es ≡ none ++ e ∷ [] →
    Reads ts (expr ∷ []) (IsExpr ts) k n e → Gathers ts (expr ∷ more expr CloseBrace ∷ []) expr CloseBrace (IsParts ts) k n es
parts_first {ts} {k} {n} {e} {none} {es} f g r =
    subst (λ l. Gathers ts (expr ∷ more expr CloseBrace ∷ []) expr CloseBrace (IsParts ts) k n l) (sym (g ∙ ap (λ l. l ++ e ∷ []) f)) (gathers_first (grammar.part_first k n e) r)

pub parts_next : {ts : List Terminal} {k m n : ℕ} {e : Expr} {es later : List Expr} → later ≡ es ++ e ∷ [] →
    Gathers ts (expr ∷ more expr CloseBrace ∷ []) expr CloseBrace (IsParts ts) k m es → Separates ts CloseBrace m →
    Reads ts (expr ∷ []) (IsExpr ts) (m + 1) n e → Gathers ts (expr ∷ more expr CloseBrace ∷ []) expr CloseBrace (IsParts ts) k n later
parts_next {ts} {k} {m} {n} {e} {es} f g s r =
    subst (λ l. Gathers ts (expr ∷ more expr CloseBrace ∷ []) expr CloseBrace (IsParts ts) k n l) (sym f) (gathers_next (part_next k m (m + 1) n es e) g s r)
