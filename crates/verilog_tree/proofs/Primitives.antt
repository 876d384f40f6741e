-- Reading the terminals of a primitive.
use Rattle.std.proofs.Common.{◌≡◌, ℕ, ◌+◌, ◌≤◌, List, [], ◌∷◌, ◌++◌, length, refl, sym, ◌∙◌, ap, subst, arith}
use Rattle.verilog_tree.specs.declared.terminal.Terminal.{Terminal}
use Rattle.verilog_tree.specs.declared.terminal.Terminal.TheVariants.{Comma, CloseParen}
use Rattle.verilog_tree.specs.declared.source.Expr.{Expr}
use Rattle.verilog_tree.specs.Grammar.{Is, IsExpr, Commas, first_item, IsTerminals, terminals}
use Rattle.verilog_tree.specs.Predict.{Closed, Extends}
use Rattle.verilog_tree.proofs.Pushing.{next_item}

-- two terminals, and then the rest
pub terminals_closed : {ts : List Terminal} {k a b m n : ℕ} {e f : Expr} {none first second es : List Expr} →
    none ≡ [] → first ≡ none ++ e ∷ [] → second ≡ first ++ f ∷ [] →
    IsExpr ts k a e → Is ts a Comma b → IsExpr ts b m f →
    Closed ts (Extends ts (IsExpr ts) second) CloseParen m n es → Closed ts (IsTerminals ts) CloseParen k n es
terminals_closed {ts} {k} {a} {b} {m} {n} {e} {f} {none} {first} {second} {es} p q r x c y rest =
    let both : second ≡ e ∷ f ∷ [] = r ∙ ap (λ l. l ++ f ∷ []) (q ∙ ap (λ l. l ++ e ∷ []) p) in
    let one : Commas ts (IsExpr ts) k a (e ∷ []) = first_item k a e x in
    let two : Commas ts (IsExpr ts) k m (e ∷ f ∷ []) = next_item k a b m (e ∷ []) f one c y in
    let long : length second ≡ 2 = ap (λ (l : List Expr). length l) both in
    record {
      place = rest.place;
      stands = terminals k rest.place es (rest.stands.goes_on k (subst (λ l. Commas ts (IsExpr ts) k m l) (sym both) two)) (let w : length second ≤ length es = rest.stands.longer in omega arith);
      ends = rest.ends;
    }
