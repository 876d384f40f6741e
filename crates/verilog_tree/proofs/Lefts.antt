-- Reading a left side.
use Rattle.std.proofs.Common.{◌≡◌, ℕ, ◌+◌, ◌≤◌, List, [], ◌∷◌, ◌++◌, Some, Result, slice_get, length, refl, sym, ◌∙◌, ap, subst, arith}
use Rattle.verilog_tree.specs.declared.terminal.Terminal.{Terminal}
use Rattle.verilog_tree.specs.declared.terminal.Terminal.TheVariants.{Name, OpenBrace, CloseBrace}
use Rattle.verilog_tree.specs.declared.reader.Read.{Read}
use Rattle.verilog_tree.specs.declared.reader.Stop.{Stop as StopOf}
use Rattle.verilog_tree.specs.declared.reader.Stop.TheVariants as Stop
use Rattle.verilog_tree.specs.declared.source.Expr.{Expr}
use Rattle.verilog_tree.specs.declared.source.Expr.TheVariants as tree
use Rattle.verilog_tree.specs.Grammar as grammar
use Rattle.verilog_tree.specs.Grammar.{Is, IsNamed, IsLeft, IsLefts}
use Rattle.verilog_tree.specs.Predict.{Begins, Wrong, after_left, more, select, left, Leads, Fails, Answers, Reads, Separates, Closed, Gathers}
use Rattle.verilog_tree.proofs.Pushing.{left_next}
use Rattle.verilog_tree.proofs.Due.{begins, follow, fails_from, answers_from, wrong}
use Rattle.verilog_tree.proofs.Gathering.{gathers_first, gathers_next}

pub left_named : (ts : List Terminal) (k : ℕ) (r : Result (Read Expr) StopOf) → slice_get ts k ≡ Some Name →
    Answers ts (select ∷ []) (λ _ n e. IsNamed ts k n e) (k + 1) r → Answers ts (left ∷ []) (IsLeft ts) k r
left_named ts k r e f =
    answers_from (λ _ n x. IsNamed ts k n x) (IsLeft ts) r (begins (select ∷ []) [] e refl) (omega arith) (λ n x h. grammar.left_named k n x h) f

pub left_wrong : (ts : List Terminal) (k : ℕ) → k ≤ length ts → (slice_get ts k ≡ Some Name → ⊥) →
    (slice_get ts k ≡ Some OpenBrace → ⊥) → Fails ts (left ∷ []) k (Stop.Stuck k)
left_wrong ts k w not_name not_open = wrong ts k left [] w refl go
  where
    go : (t : Terminal) → slice_get ts k ≡ Some t → after_left t ≡ Wrong
    go Name e = absurd (not_name e)
    go OpenBrace e = absurd (not_open e)
    go _ e = refl

left_begins : {ts : List Terminal} {k : ℕ} → slice_get ts k ≡ Some OpenBrace → Leads ts (left ∷ []) k (left ∷ more left CloseBrace ∷ []) (k + 1)
left_begins e = begins (left ∷ more left CloseBrace ∷ []) [] e refl

pub left_fails : (ts : List Terminal) (k : ℕ) (stop : StopOf) → slice_get ts k ≡ Some OpenBrace →
    Fails ts (left ∷ more left CloseBrace ∷ []) (k + 1) stop → Fails ts (left ∷ []) k stop
left_fails ts k stop e f = fails_from (left_begins e) f

pub left_read : (ts : List Terminal) (k n : ℕ) (es : List Expr) → slice_get ts k ≡ Some OpenBrace →
    Reads ts (left ∷ more left CloseBrace ∷ []) (Closed ts (IsLefts ts) CloseBrace) (k + 1) n es →
    Reads ts (left ∷ []) (IsLeft ts) k n (tree.Join es)
left_read ts k n es e r = record {
  stands = grammar.left_join k (k + 1) r.stands.place n es (record { here = e; after = refl }) r.stands.stands r.stands.ends;
  goes = follow (left_begins e) r.goes;
  forward = (let f : k + 1 ≤ n = r.forward in omega arith);
  inside = r.inside;
}

pub ruleset lefts = (left_named, left_wrong, left_fails)

pub parts_first : {ts : List Terminal} {k n : ℕ} {e : Expr} {none es : List Expr} → none ≡ [] → es ≡ none ++ e ∷ [] →
    Reads ts (left ∷ []) (IsLeft ts) k n e → Gathers ts (left ∷ more left CloseBrace ∷ []) left CloseBrace (IsLefts ts) k n es
parts_first {ts} {k} {n} {e} {none} {es} f g r =
    subst (λ l. Gathers ts (left ∷ more left CloseBrace ∷ []) left CloseBrace (IsLefts ts) k n l) (sym (g ∙ ap (λ l. l ++ e ∷ []) f)) (gathers_first (grammar.left_first k n e) r)

pub parts_next : {ts : List Terminal} {k m n : ℕ} {e : Expr} {es later : List Expr} → later ≡ es ++ e ∷ [] →
    Gathers ts (left ∷ more left CloseBrace ∷ []) left CloseBrace (IsLefts ts) k m es → Separates ts CloseBrace m →
    Reads ts (left ∷ []) (IsLeft ts) (m + 1) n e → Gathers ts (left ∷ more left CloseBrace ∷ []) left CloseBrace (IsLefts ts) k n later
parts_next {ts} {k} {m} {n} {e} {es} f g s r =
    subst (λ l. Gathers ts (left ∷ more left CloseBrace ∷ []) left CloseBrace (IsLefts ts) k n l) (sym f) (gathers_next (left_next k m (m + 1) n es e) g s r)
